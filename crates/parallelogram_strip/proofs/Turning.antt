-- Directions that turn to the left, all of them upwards.
use Rattle.std.proofs.Common.{◌≡◌, subst, ℕ, zero, suc, ◌<◌, ◌≤◌, inl, inr, ℤ, pos, ◌+ℤ◌, ◌-ℤ◌, ◌*ℤ◌, ◌≤ℤ◌, ◌<ℤ◌, [], ◌∷◌, arith}
use Rattle.std.proofs.Math.Nat.{eq-or-lt_of_le}
use Rattle.integers.proofs.Identities.{den-ring, read, polys, lits}
use Rattle.integers.proofs.Order.{nonneg_mul, nonneg_add, positive_mul, positive_add, lt_by, le_by, le_of_mul_le, le_from_lt, positive_of_mul}
use Rattle.bounds_model.specs.Plane.{PlanePoint, cross, dot}

-- of three directions, each to the left of the one before, the last is to the left of the first
pub turn_trans : (a b c : PlanePoint) → pos 0 ≤ℤ a.y → pos 0 <ℤ b.y → pos 0 <ℤ c.y → pos 0 <ℤ cross a b → pos 0 <ℤ cross b c → pos 0 <ℤ cross a c
turn_trans a b c up_a up_b up_c ab bc = plain a.x a.y b.x b.y c.x c.y up_a up_b up_c ab bc
  where
    plain : (ax ay bx by cx cy : ℤ) → pos 0 ≤ℤ ay → pos 0 <ℤ by → pos 0 <ℤ cy → pos 0 <ℤ (ax *ℤ by -ℤ ay *ℤ bx) → pos 0 <ℤ (bx *ℤ cy -ℤ by *ℤ cx) → pos 0 <ℤ (ax *ℤ cy -ℤ ay *ℤ cx)
    plain ax ay bx by cx cy up_a up_b up_c ab bc =
        positive_of_mul by (le_from_lt up_b)
        (lt_by (positive_add (positive_mul up_c ab) (nonneg_mul up_a (le_from_lt bc)))
        (read (ax ∷ ay ∷ bx ∷ by ∷ cx ∷ cy ∷ []) (λ xs a b c d e f. simp (a, b, c, d, e, f, polys, lits xs) (den-ring xs _ _ tt))))

-- directions of which each is to the left of the one before: each is to the left of all before it
pub left_of_earlier : (d : ℕ → PlanePoint) (m : ℕ) → ((i : ℕ) → i < m → pos 0 ≤ℤ (d i).y) → ((i : ℕ) → 0 < i → i < m → pos 0 <ℤ (d i).y) → ((i : ℕ) → suc i < m → pos 0 <ℤ cross (d i) (d (suc i)))
    → (i k : ℕ) → i < k → k < m → pos 0 <ℤ cross (d i) (d k)
left_of_earlier d m up inner turns i zero h l = absurd (omega arith)
left_of_earlier d m up inner turns i (suc k) h l =
    elim (eq-or-lt_of_le (last h)) [
      | inl e ↦ subst (λ j. pos 0 <ℤ cross (d j) (d (suc k))) (sym_of e) (turns k l)
      | inr n ↦ turn_trans (d i) (d k) (d (suc k)) (up i (omega arith)) (inner k (omega arith) (omega arith)) (inner (suc k) (omega arith) l) (left_of_earlier d m up inner turns i k n (omega arith)) (turns k l)
    ]
  where
    last : {i k : ℕ} → i < suc k → i ≤ k
    last h = omega arith

    sym_of : {i k : ℕ} → i ≡ k → k ≡ i
    sym_of e = omega arith

-- u lies between d and e, of which e is to the left of d
pub record IsBetween (d e u : PlanePoint) : Type 0 where
  pub turns : pos 0 <ℤ cross d e
  pub left : pos 0 ≤ℤ cross d u
  pub right : pos 0 ≤ℤ cross u e

-- a product with a vector that is not below 0 at both ends of a cone is not below 0 between them
pub dot_between : (d e u h : PlanePoint) → IsBetween d e u → pos 0 ≤ℤ dot d h → pos 0 ≤ℤ dot e h → pos 0 ≤ℤ dot u h
dot_between d e u h b at_d at_e = plain d.x d.y e.x e.y u.x u.y h.x h.y b.turns b.left b.right at_d at_e
  where
    plain : (dx dy ex ey ux uy hx hy : ℤ) → pos 0 <ℤ (dx *ℤ ey -ℤ dy *ℤ ex) → pos 0 ≤ℤ (dx *ℤ uy -ℤ dy *ℤ ux) → pos 0 ≤ℤ (ux *ℤ ey -ℤ uy *ℤ ex)
        → pos 0 ≤ℤ (dx *ℤ hx +ℤ dy *ℤ hy) → pos 0 ≤ℤ (ex *ℤ hx +ℤ ey *ℤ hy) → pos 0 ≤ℤ (ux *ℤ hx +ℤ uy *ℤ hy)
    plain dx dy ex ey ux uy hx hy turns left right at_d at_e =
        le_of_mul_le (dx *ℤ ey -ℤ dy *ℤ ex) turns
        (le_by (nonneg_add (nonneg_mul right at_d) (nonneg_mul left at_e))
        (read (dx ∷ dy ∷ ex ∷ ey ∷ ux ∷ uy ∷ hx ∷ hy ∷ []) (λ xs a b c d e f g h. simp (a, b, c, d, e, f, g, h, polys, lits xs) (den-ring xs _ _ tt))))

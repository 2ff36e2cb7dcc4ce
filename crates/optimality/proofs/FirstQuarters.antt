-- The directions of a fan over a quarter turn, up to one that no earlier cone passes: they all point to the right, and not down.
use Rattle.std.proofs.Common.{◌≡◌, sym, subst, ◌⊎◌, inl, inr, ℕ, zero, suc, ◌+◌, ◌<◌, ℤ, pos, ◌+ℤ◌, ◌-ℤ◌, ◌*ℤ◌, ◌≤ℤ◌, ◌<ℤ◌, List, [], ◌∷◌, arith}
use Rattle.std.proofs.lemmas.Int.{ints, by_lt_z}
use Rattle.integers.proofs.Identities.{den-ring, read, polys, lits}
use Rattle.integers.proofs.Order.{combine1, square_nonneg, nonneg_add, nonneg_mul, positive_mul, positive_of_mul, nonneg_of_mul, le_from_lt}
use Rattle.bounds_model.specs.Plane.{PlanePoint, point_at, cross}
use Rattle.bounds_model.specs.Firsts.{IsInQuarterTurn}
use Rattle.optimality.proofs.FirstCones.{ConeBefore, one_of_more}

-- |d w| e = |e w| d + |d e| w, in each coordinate
mixed : (dx dy ex ey wx wy : ℤ) → (dx *ℤ wy -ℤ dy *ℤ wx) *ℤ ex ≡ (ex *ℤ wy -ℤ ey *ℤ wx) *ℤ dx +ℤ (dx *ℤ ey -ℤ dy *ℤ ex) *ℤ wx
mixed dx dy ex ey wx wy = read (dx ∷ dy ∷ ex ∷ ey ∷ wx ∷ wy ∷ []) (λ xs a b c d e f. simp (a, b, c, d, e, f, polys) (den-ring xs _ _ tt))

mixed_up : (dx dy ex ey wx wy : ℤ) → (dx *ℤ wy -ℤ dy *ℤ wx) *ℤ ey ≡ (ex *ℤ wy -ℤ ey *ℤ wx) *ℤ dy +ℤ (dx *ℤ ey -ℤ dy *ℤ ex) *ℤ wy
mixed_up dx dy ex ey wx wy = read (dx ∷ dy ∷ ex ∷ ey ∷ wx ∷ wy ∷ []) (λ xs a b c d e f. simp (a, b, c, d, e, f, polys) (den-ring xs _ _ tt))

positive_sum : {a b : ℤ} → pos 0 ≤ℤ a → pos 0 <ℤ b → pos 0 <ℤ (a +ℤ b)
positive_sum h k = omega (arith, ints)

-- from d in the quarter turn to e at its left, and not to the left of w in the quarter turn
next_in_turn : (d e w : PlanePoint) → IsInQuarterTurn w → IsInQuarterTurn d → pos 0 ≤ℤ cross d w → pos 0 <ℤ cross d e → pos 0 ≤ℤ cross e w → IsInQuarterTurn e
next_in_turn d e w hw hd dw de ew =
    let right : pos 0 <ℤ (cross d w *ℤ e.x) = subst (λ z. pos 0 <ℤ z) (sym (mixed d.x d.y e.x e.y w.x w.y)) (positive_sum (nonneg_mul ew (le_from_lt hd.right)) (positive_mul de hw.right)) in
    let up : pos 0 ≤ℤ (cross d w *ℤ e.y) = subst (λ z. pos 0 ≤ℤ z) (sym (mixed_up d.x d.y e.x e.y w.x w.y)) (nonneg_add (nonneg_mul ew hd.up) (nonneg_mul (le_from_lt de) hw.up)) in
    let some : pos 0 <ℤ cross d w = by_lt_z (pos 0) (cross d w) (λ h. h) (λ h. absurd (no_product (cross d w) e.x dw h right)) in
    record { right = positive_of_mul (cross d w) dw right; up = nonneg_of_mul (cross d w) some up }
  where
    no_product : (a b : ℤ) → pos 0 ≤ℤ a → a ≤ℤ pos 0 → pos 0 <ℤ (a *ℤ b) → ⊥
    no_product a b h k p = nothing (subst (λ z. pos 0 <ℤ (z *ℤ b)) (none h k) p)
      where
        none : {a : ℤ} → pos 0 ≤ℤ a → a ≤ℤ pos 0 → a ≡ pos 0
        none h k = omega (arith, ints)

        nothing : pos 0 <ℤ (pos 0 *ℤ b) → ⊥
        nothing h = omega (arith, ints)

-- what is known of a direction that no earlier cone passes w before
pub record IsUpTo (w d : PlanePoint) : Type 0 where
  pub in_turn : IsInQuarterTurn d
  pub before : pos 0 ≤ℤ cross d w

-- each direction comes after a cone that has w in it, or is in the quarter turn and not to the left of w
pub passed_or_in_turn : (directions : List PlanePoint) (w : PlanePoint) → IsInQuarterTurn w → IsUpTo w (point_at directions 0) → (n : ℕ) → ((i : ℕ) → i < n → pos 0 <ℤ cross (point_at directions i) (point_at directions (i + 1))) → ConeBefore directions n w ⊎ IsUpTo w (point_at directions n)
passed_or_in_turn directions w hw first zero turns = inr first
passed_or_in_turn directions w hw first (suc n) turns = elim (passed_or_in_turn directions w hw first n (λ i h. turns i (more i n h))) [
  | inl c ↦ inl (one_of_more c)
  | inr u ↦ by_lt_z (cross (point_at directions (suc n)) w) (pos 0)
      (λ right. inl (record { number = n; below = here n; left = u.before; right = subst (λ i. cross (point_at directions i) w <ℤ pos 0) (one_up n) right }))
      (λ left. inr (record { in_turn = next_in_turn (point_at directions n) (point_at directions (suc n)) w hw u.in_turn u.before (subst (λ i. pos 0 <ℤ cross (point_at directions n) (point_at directions i)) (sym (one_up n)) (turns n (here n))) left; before = left }))
]
  where
    more : (i n : ℕ) → i < n → i < suc n
    more i n h = omega arith

    here : (n : ℕ) → n < suc n
    here n = omega arith

    one_up : (n : ℕ) → suc n ≡ n + 1
    one_up n = omega arith

-- what points the same way as a direction in the quarter turn is in it
pub same_turn : (d u : PlanePoint) → cross d u ≡ pos 0 → pos 0 <ℤ ((d.x *ℤ u.x) +ℤ (d.y *ℤ u.y)) → IsInQuarterTurn d → IsInQuarterTurn u
same_turn d u parallel ahead h =
    let right : pos 0 <ℤ u.x = to_right d.x d.y u.x u.y parallel ahead h.right in
    record { right = right; up = to_up d.x d.y u.x u.y parallel h.right h.up (le_from_lt right) }
  where
    -- (x² + y²) ux = (d · u) x - (d × u) y
    to_right : (x y ux uy : ℤ) → x *ℤ uy -ℤ y *ℤ ux ≡ pos 0 → pos 0 <ℤ ((x *ℤ ux) +ℤ (y *ℤ uy)) → pos 0 <ℤ x → pos 0 <ℤ ux
    to_right x y ux uy e a p = positive_of_mul (x *ℤ x +ℤ y *ℤ y) (nonneg_add (square_nonneg x) (square_nonneg y)) (subst (λ z. pos 0 <ℤ z) (plain x y ux uy e) (positive_mul p a))
      where
        plain : (x y ux uy : ℤ) → x *ℤ uy -ℤ y *ℤ ux ≡ pos 0 → x *ℤ ((x *ℤ ux) +ℤ (y *ℤ uy)) ≡ (x *ℤ x +ℤ y *ℤ y) *ℤ ux
        plain x y ux uy e = combine1 y e (read (x ∷ y ∷ ux ∷ uy ∷ []) (λ xs a b c d. simp (a, b, c, d, polys, lits xs) (den-ring xs _ _ tt)))

    to_up : (x y ux uy : ℤ) → x *ℤ uy -ℤ y *ℤ ux ≡ pos 0 → pos 0 <ℤ x → pos 0 ≤ℤ y → pos 0 ≤ℤ ux → pos 0 ≤ℤ uy
    to_up x y ux uy e p q r = nonneg_of_mul x p (subst (λ z. pos 0 ≤ℤ z) (plain x y ux uy e) (nonneg_mul q r))
      where
        plain : (x y ux uy : ℤ) → x *ℤ uy -ℤ y *ℤ ux ≡ pos 0 → y *ℤ ux ≡ x *ℤ uy
        plain x y ux uy e = apart (x *ℤ uy) (y *ℤ ux) e
          where
            apart : (a b : ℤ) → a -ℤ b ≡ pos 0 → b ≡ a
            apart a b e = omega (arith, ints)

-- Directions that point upwards: among them the left turn is an order. Directions at right angles to a vector, or along it.
use Rattle.std.proofs.Common.{◌≡◌, sym, subst, ℕ, zero, suc, ◌+◌, ◌-◌, ◌<◌, ℤ, pos, ◌+ℤ◌, ◌-ℤ◌, ◌*ℤ◌, ◌<ℤ◌, List, [], ◌∷◌, length, arith}
use mathlib.Core.Logic.{inl, inr}
use Rattle.std.specs.Prelude.{◌⊎◌}
use Rattle.integers.proofs.Identities.{den-ring, read, polys, lits}
use Rattle.integers.proofs.Order.{positive_mul, positive_add, le_from_lt, same_of_mul, combine2, positive_of_mul}
use Rattle.bounds_model.specs.Numbers.{EachBelow}
use Rattle.bounds_model.specs.Plane.{PlanePoint, point_at, cross}
use Rattle.bounds_model.specs.PlainFans.{EachInner}

-- ---- turning left is an order among directions that point upwards

exchange_y : (ux uy vx vy wx wy : ℤ) → vy *ℤ (ux *ℤ wy -ℤ uy *ℤ wx) ≡ uy *ℤ (vx *ℤ wy -ℤ vy *ℤ wx) +ℤ wy *ℤ (ux *ℤ vy -ℤ uy *ℤ vx)
exchange_y ux uy vx vy wx wy = read (ux ∷ uy ∷ vx ∷ vy ∷ wx ∷ wy ∷ []) (λ xs a b c d e f. simp (a, b, c, d, e, f, polys) (den-ring xs _ _ tt))

further : (u v w : PlanePoint) → pos 0 <ℤ u.y → pos 0 <ℤ v.y → pos 0 <ℤ w.y → pos 0 <ℤ cross u v → pos 0 <ℤ cross v w → pos 0 <ℤ cross u w
further u v w pu pv pw a b =
    positive_of_mul v.y (le_from_lt pv)
    (subst (λ z. pos 0 <ℤ z) (sym (exchange_y u.x u.y v.x v.y w.x w.y)) (positive_add (positive_mul pu b) (le_from_lt (positive_mul pw a))))

abbrev pub Turns : List PlanePoint → Type 0
Turns ds = EachBelow (length ds - 1) (λ i. pos 0 <ℤ cross (point_at ds i) (point_at ds (i + 1)))

-- so each later direction is to the left of an earlier one
pub ordered : (ds : List PlanePoint) → Turns ds → EachInner ds (λ d. pos 0 <ℤ d.y) → (i k : ℕ) → 0 < i → i < k → k + 1 < length ds
    → pos 0 <ℤ cross (point_at ds i) (point_at ds k)
ordered ds turns above i zero p l b = absurd (none i l)
  where
    none : (i : ℕ) → i < 0 → ⊥
    none i l = omega arith
ordered ds turns above i (suc k) p l b =
    elim (split i k l) [
      | inl m ↦ onward m (ordered ds turns above i k p m (omega (arith, b)))
      | inr e ↦ subst (λ j. pos 0 <ℤ cross (point_at ds j) (point_at ds (suc k))) (sym e) next
    ]
  where
    split : (i k : ℕ) → i < suc k → (i < k) ⊎ (i ≡ k)
    split i k l = grind arith

    plus_one : (k : ℕ) → k + 1 ≡ suc k
    plus_one k = omega arith

    next : pos 0 <ℤ cross (point_at ds k) (point_at ds (suc k))
    next = subst (λ j. pos 0 <ℤ cross (point_at ds k) (point_at ds j)) (plus_one k) (turns k (omega (arith, b)))

    onward : i < k → pos 0 <ℤ cross (point_at ds i) (point_at ds k) → pos 0 <ℤ cross (point_at ds i) (point_at ds (suc k))
    onward m before =
        further (point_at ds i) (point_at ds k) (point_at ds (suc k))
        (above i p (omega (arith, m, b))) (above k (omega (arith, p, m)) (omega (arith, b))) (above (suc k) (omega arith) b) before next

-- ---- two directions at right angles to one vector are on one line, and one at right angles to it and one along it are at right angles

pub parallel : (p q ux uy wx wy : ℤ) → pos 0 <ℤ (p *ℤ p +ℤ q *ℤ q) → p *ℤ ux +ℤ q *ℤ uy ≡ pos 0 → p *ℤ wx +ℤ q *ℤ wy ≡ pos 0
    → ux *ℤ wy -ℤ uy *ℤ wx ≡ pos 0
parallel p q ux uy wx wy long hu hw =
    same_of_mul (p *ℤ p +ℤ q *ℤ q) long (combine2 (p *ℤ wy -ℤ q *ℤ wx) (q *ℤ ux -ℤ p *ℤ uy) hu hw
    (read (p ∷ q ∷ ux ∷ uy ∷ wx ∷ wy ∷ []) (λ xs a b c d e f. simp (a, b, c, d, e, f, lits xs, polys) (den-ring xs _ _ tt))))

pub across : (p q ux uy wx wy : ℤ) → pos 0 <ℤ (p *ℤ p +ℤ q *ℤ q) → p *ℤ ux +ℤ q *ℤ uy ≡ pos 0 → p *ℤ wy -ℤ q *ℤ wx ≡ pos 0
    → ux *ℤ wx +ℤ uy *ℤ wy ≡ pos 0
across p q ux uy wx wy long hu hw =
    same_of_mul (p *ℤ p +ℤ q *ℤ q) long (combine2 (p *ℤ wx +ℤ q *ℤ wy) (p *ℤ uy -ℤ q *ℤ ux) hu hw
    (read (p ∷ q ∷ ux ∷ uy ∷ wx ∷ wy ∷ []) (λ xs a b c d e f. simp (a, b, c, d, e, f, lits xs, polys) (den-ring xs _ _ tt))))

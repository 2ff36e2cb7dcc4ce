-- How far points reach in a direction, and points that are extreme there.
use Prim.Native.Nat.{◌∣◌}
use Rattle.std.proofs.Common.{◌≡◌, refl, sym, ◌∙◌, ap₂, subst, ℕ, zero, suc, ◌<◌, ◌≤◌, ◌⊎◌, inl, inr, ℤ, pos, negsuc, nat_abs, ◌+ℤ◌, ◌-ℤ◌, ◌*ℤ◌, neg_ℤ, ◌≤ℤ◌, ◌<ℤ◌, List, [], ◌∷◌, length, Some, arith}
use Rattle.std.specs.Prelude.{slice_get, slice_index_or}
use Rattle.std.proofs.lemmas.Int.{ints}
use Rattle.std.proofs.lemmas.List.Elements.{All-cons, All-nil}
use Rattle.std.proofs.lemmas.Nat.Gcd.{dvd-zero}
use Rattle.integers.proofs.Identities.{den-ring, read, polys}
use Rattle.integers.proofs.Order.{le_by, nonneg_difference, le_antisymm_ℤ, square_positive, square_nonneg, positive_add}
use Rattle.integers.specs.Size.{Size}
use Rattle.bounds_model.specs.Plane.{PlanePoint, origin, point_at, dot, squared_length, vector}
use Rattle.bounds_model.specs.Fractions.{HaveNoCommonFactor}
use Rattle.bounds_model.specs.Fans.{AreExtreme, reach}
use Rattle.directions.proofs.Reading.{reach_parts, point_is}

-- ---- reaches

-- two points reach as far as their numbers exchanged, the other way
pub reach_turned : (points : List PlanePoint) (d : PlanePoint) (high low : ℕ) → reach points d low high ≡ neg_ℤ (reach points d high low)
reach_turned points d high low = plain d.x d.y (point_at points low).x (point_at points low).y (point_at points high).x (point_at points high).y
  where
    plain : (dx dy px py qx qy : ℤ) → dx *ℤ (px -ℤ qx) +ℤ dy *ℤ (py -ℤ qy) ≡ neg_ℤ (dx *ℤ (qx -ℤ px) +ℤ dy *ℤ (qy -ℤ py))
    plain dx dy px py qx qy = read (dx ∷ dy ∷ px ∷ py ∷ qx ∷ qy ∷ []) (λ xs a b c d e f. simp (a, b, c, d, e, f, polys) (den-ring xs _ _ tt))

-- and in the opposite direction
pub reach_opposite : (points : List PlanePoint) (d : PlanePoint) (high low : ℕ) → reach points (record { x = neg_ℤ d.x; y = neg_ℤ d.y }) low high ≡ reach points d high low
reach_opposite points d high low = plain d.x d.y (point_at points low).x (point_at points low).y (point_at points high).x (point_at points high).y
  where
    plain : (dx dy px py qx qy : ℤ) → neg_ℤ dx *ℤ (px -ℤ qx) +ℤ neg_ℤ dy *ℤ (py -ℤ qy) ≡ dx *ℤ (qx -ℤ px) +ℤ dy *ℤ (qy -ℤ py)
    plain dx dy px py qx qy = read (dx ∷ dy ∷ px ∷ py ∷ qx ∷ qy ∷ []) (λ xs a b c d e f. simp (a, b, c, d, e, f, polys) (den-ring xs _ _ tt))

-- what reaches forward is not behind
pub not_behind : (points : List PlanePoint) (d : PlanePoint) (a b : ℕ) (p q : PlanePoint) → slice_get points a ≡ Some p → slice_get points b ≡ Some q → pos 0 ≤ℤ reach points d b a → dot d p ≤ℤ dot d q
not_behind points d a b p q ha hb h = subst (λ o. dot d o ≤ℤ dot d q) (point_is points a p ha) (subst (λ o. dot d (point_at points a) ≤ℤ dot d o) (point_is points b q hb) (plain (dot d (point_at points b)) (dot d (point_at points a)) (subst (λ z. pos 0 ≤ℤ z) (reach_parts points d b a) h)))
  where
    plain : (x y : ℤ) → pos 0 ≤ℤ (x -ℤ y) → y ≤ℤ x
    plain x y h = omega (arith, ints)

-- and what reaches back is not ahead
pub not_ahead : (points : List PlanePoint) (d : PlanePoint) (a c : ℕ) (p r : PlanePoint) → slice_get points a ≡ Some p → slice_get points c ≡ Some r → reach points d c a ≤ℤ pos 0 → dot d r ≤ℤ dot d p
not_ahead points d a c p r ha hc h = subst (λ o. dot d r ≤ℤ dot d o) (point_is points a p ha) (subst (λ o. dot d o ≤ℤ dot d (point_at points a)) (point_is points c r hc) (plain (dot d (point_at points c)) (dot d (point_at points a)) (subst (λ z. z ≤ℤ pos 0) (reach_parts points d c a) h)))
  where
    plain : (x y : ℤ) → (x -ℤ y) ≤ℤ pos 0 → x ≤ℤ y
    plain x y h = omega (arith, ints)

-- a number that is the difference of two of a size
pub reach_within : {w : ℕ} {p q : ℤ} → pos w ≡ q -ℤ p → Size 160000000000 q → Size 160000000000 p → w ≤ 320000000000
reach_within h sq sp = let lq = sq.abs in let lp = sp.abs in omega (arith, ints)

-- ---- extreme points

-- two pairs that are extreme in a direction: their highest points are equally far out
pub highest_same : (points : List PlanePoint) (d : PlanePoint) {high low high' low' : ℕ} → high < length points → high' < length points → AreExtreme points d high low → AreExtreme points d high' low' → dot d (point_at points high) ≡ dot d (point_at points high')
highest_same points d {high} {low} {high'} {low'} n n' h h' = le_antisymm_ℤ (h'.highest high origin n) (h.highest high' origin n')

-- likewise the lowest
pub lowest_same : (points : List PlanePoint) (d : PlanePoint) {high low high' low' : ℕ} → low < length points → low' < length points → AreExtreme points d high low → AreExtreme points d high' low' → dot d (point_at points low) ≡ dot d (point_at points low')
lowest_same points d {high} {low} {high'} {low'} n n' h h' = le_antisymm_ℤ (h.lowest low' origin n') (h'.lowest low origin n)

-- so they reach equally far
pub reach_same : (points : List PlanePoint) (d : PlanePoint) (high low high' low' : ℕ) → high < length points → low < length points → high' < length points → low' < length points → AreExtreme points d high low → AreExtreme points d high' low'
    → reach points d high low ≡ reach points d high' low'
reach_same points d high low high' low' nh nl nh' nl' h h' =
    reach_parts points d high low ∙ ap₂ (λ u v. u -ℤ v) (highest_same points d nh nh' h h') (lowest_same points d nl nl' h h') ∙ sym (reach_parts points d high' low')

-- the other way the highest and the lowest points change their parts
pub extreme_opposite : (points : List PlanePoint) (d : PlanePoint) (high low : ℕ) → AreExtreme points d high low → AreExtreme points (record { x = neg_ℤ d.x; y = neg_ℤ d.y }) low high
extreme_opposite points d high low h = record {
  highest = λ i e l. plain d.x d.y (point_at points low).x (point_at points low).y (slice_index_or points i e).x (slice_index_or points i e).y (h.lowest i e l);
  lowest = λ i e l. plain d.x d.y (slice_index_or points i e).x (slice_index_or points i e).y (point_at points high).x (point_at points high).y (h.highest i e l);
}
  where
    plain : (x y px py qx qy : ℤ) → (x *ℤ px +ℤ y *ℤ py) ≤ℤ (x *ℤ qx +ℤ y *ℤ qy) → (neg_ℤ x *ℤ qx +ℤ neg_ℤ y *ℤ qy) ≤ℤ (neg_ℤ x *ℤ px +ℤ neg_ℤ y *ℤ py)
    plain x y px py qx qy h = le_by (nonneg_difference h) (read (x ∷ y ∷ px ∷ py ∷ qx ∷ qy ∷ []) (λ xs a b c d e f. simp (a, b, c, d, e, f, polys) (den-ring xs _ _ tt)))

-- ---- lengths

-- a number is 0, or its square is above 0
zero_or : (z : ℤ) → (z ≡ pos 0) ⊎ (pos 0 <ℤ (z *ℤ z))
zero_or (pos zero) = inl refl
zero_or (pos (suc n)) = inr (square_positive (pos (suc n)) (λ e. absurd (omega (arith, ints, e))))
zero_or (negsuc n) = inr (square_positive (negsuc n) (λ e. absurd (omega (arith, ints, e))))

-- a direction in lowest terms has a length
pub lowest_long : (d : PlanePoint) → HaveNoCommonFactor (d.x ∷ d.y ∷ []) → pos 0 <ℤ squared_length d
lowest_long d lowest =
    elim (zero_or d.x) [
      | inl x ↦ elim (zero_or d.y) [
        | inl y ↦ absurd (two (lowest 2 (All-cons (λ e. 2 ∣ nat_abs e) d.x (d.y ∷ []) (zero_divides d.x x) (All-cons (λ e. 2 ∣ nat_abs e) d.y [] (zero_divides d.y y) (All-nil (λ e. 2 ∣ nat_abs e))))))
        | inr y ↦ other (square_nonneg d.x) y
      ]
      | inr x ↦ positive_add x (square_nonneg d.y)
    ]
  where
    zero_divides : (z : ℤ) → z ≡ pos 0 → 2 ∣ nat_abs z
    zero_divides z e = subst (λ y. 2 ∣ nat_abs y) (sym e) (dvd-zero 2)

    two : ◌≡◌ {A = ℕ} 2 1 → ⊥
    two e = omega arith

    other : {a b : ℤ} → pos 0 ≤ℤ a → pos 0 <ℤ b → pos 0 <ℤ (a +ℤ b)
    other h k = omega (arith, ints)

-- what has a length is not 0
pub long_some : (d : PlanePoint) → pos 0 <ℤ squared_length d → d ≡ origin → ⊥
long_some d long e = never (subst (λ x. pos 0 <ℤ squared_length x) e long)
  where
    never : pos 0 <ℤ squared_length origin → ⊥
    never h = absurd h.lt

-- a product with the vector between two points
pub dot_vector : (d p q : PlanePoint) → dot d (vector p q) ≡ dot d q -ℤ dot d p
dot_vector d p q = reach_parts (p ∷ q ∷ []) d 1 0

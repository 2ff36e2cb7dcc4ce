-- The measure of exchanges.
use Rattle.std.proofs.Common.{sym, subst, inl, inr, ℕ, ◌*◌, ◌/◌, ◌<◌, ℤ, pos, ◌+ℤ◌, ◌-ℤ◌, ◌*ℤ◌, ◌≤ℤ◌, ◌<ℤ◌, List, arith, [], ◌∷◌}
use Rattle.std.specs.Prelude.{All}
use Rattle.std.proofs.lemmas.Int.{ints}
use Rattle.integers.proofs.Identities.{den-ring, read, polys, lits}
use Rattle.integers.proofs.Order.{nonneg_add, nonneg_mul, le_from_lt, nonneg_difference, positive_mul, square_nonneg, mul_le_both, le_by, nonneg_from_one}
use Rattle.integers.proofs.Sums.{total_weighted_le}
use Rattle.std.proofs.lemmas.List.Elements.{All-weaker}
use Rattle.integers.proofs.LeastDifferences.{floor_rises_ℤ, rest_falls}
use Rattle.integers.specs.Size.{Size}
use Rattle.integers.proofs.Sizes.{size_mul}
use Rattle.bounds_model.specs.Space.{SpacePoint, squared_length}
use Rattle.bounds_model.specs.Slacks.{WeightedVector, mass, moment, second_moment, value}
use Rattle.kernel_laws.specs.Limits.{IsVectorWithin, IsDifference, difference_limit}
use Rattle.kernel_laws.proofs.Points.{squared_length_nonneg}
use Rattle.corral.specs.Supports.{IsQuadratic, support_vectors, AreSupports}
use Rattle.corral.proofs.Moments.{mass_positive}
use Rattle.corral.proofs.Supports.{all_vectors}
use Rattle.corral.specs.Rise.{AreBounded}
use Rattle.corral.specs.Laws.{MeasureFalls}

-- ---- the value is at most the longest squared length

-- by the sum of the weights M, the second moment Q and the squared length W of the moment
difference_of_ball : (M Q W L : ℤ) → pos 0 ≤ℤ M → pos 0 ≤ℤ W → (pos 1 *ℤ Q) ≤ℤ (M *ℤ L) → pos 0 ≤ℤ (L *ℤ (M *ℤ M) -ℤ (pos 1 *ℤ (M *ℤ Q) -ℤ W))
difference_of_ball M Q W L hM hW h =
    le_by (nonneg_add (nonneg_mul hM (nonneg_difference h)) hW) (read (M ∷ Q ∷ W ∷ L ∷ []) (λ xs a b c d. simp (a, b, c, d, polys, lits xs) (den-ring xs _ _ tt)))

difference_of_distance : (M Q W L : ℤ) → pos 0 ≤ℤ L → pos 0 ≤ℤ W → pos 0 ≤ℤ (L *ℤ (M *ℤ M) -ℤ (pos 0 *ℤ (M *ℤ Q) -ℤ W))
difference_of_distance M Q W L hL hW =
    le_by (nonneg_add (nonneg_mul hL (square_nonneg M)) hW) (read (M ∷ Q ∷ W ∷ L ∷ []) (λ xs a b c d. simp (a, b, c, d, polys, lits xs) (den-ring xs _ _ tt)))

difference_nonneg : (quadratic : ℤ) → IsQuadratic quadratic → (longest limit : ℕ) (items : List WeightedVector) → AreBounded longest limit items → pos 0 ≤ℤ (pos longest *ℤ (value quadratic items).d -ℤ (value quadratic items).n)
difference_nonneg quadratic (inl e) longest limit items h =
    subst (λ g. pos 0 ≤ℤ (pos longest *ℤ (value g items).d -ℤ (value g items).n)) (sym e)
    (difference_of_distance (mass items) (second_moment items) (squared_length (moment items)) (pos longest) (omega (arith, ints)) (squared_length_nonneg (moment items)))
difference_nonneg quadratic (inr e) longest limit items h =
    subst (λ g. pos 0 ≤ℤ (pos longest *ℤ (value g items).d -ℤ (value g items).n)) (sym e)
    (difference_of_ball (mass items) (second_moment items) (squared_length (moment items)) (pos longest) (le_from_lt h.some) (squared_length_nonneg (moment items))
    (total_weighted_le (λ (item : WeightedVector). item.weight) (λ item. squared_length item.vector) (pos 1) (pos longest) items (λ k d l. nonneg_from_one (h.weights k d l)) (λ k d l. once (h.short k d l))))
  where
    once : {a b : ℤ} → a ≤ℤ b → (pos 1 *ℤ a) ≤ℤ b
    once h = omega (arith, ints)

-- where the value rises, the measure falls
pub measure_falls : MeasureFalls
measure_falls quadratic flag longest limit old found bounded_old bounded_found below =
    let v = value quadratic old in
    let w = value quadratic found in
    floor_rises_ℤ (pos longest *ℤ w.d -ℤ w.n) w.d (pos longest *ℤ v.d -ℤ v.n) v.d (limit * limit)
    (difference_nonneg quadratic flag longest limit found bounded_found) (positive_mul bounded_found.some bounded_found.some)
    (difference_nonneg quadratic flag longest limit old bounded_old) (positive_mul bounded_old.some bounded_old.some)
    (mul_le_both (le_from_lt bounded_found.some) (le_from_lt bounded_found.some) bounded_found.light bounded_found.light)
    (mul_le_both (le_from_lt bounded_old.some) (le_from_lt bounded_old.some) bounded_old.light bounded_old.light)
    (rest_falls (pos longest) v.n v.d w.n w.d below)

-- ---- supports are bounded

-- how long a vector is whose coordinates are at most n
pub squared_length_within : (n : ℕ) (v : SpacePoint) → IsVectorWithin n v → squared_length v ≤ℤ pos (3 * (n * n))
squared_length_within n v h = sum (square_within h.x) (square_within h.y) (square_within h.z)
  where
    square_within : {n : ℕ} {z : ℤ} → Size n z → (z *ℤ z) ≤ℤ pos (n * n)
    square_within {n} {z} h = below z (size_mul h h)
      where
        below : (z : ℤ) → Size (n * n) (z *ℤ z) → (z *ℤ z) ≤ℤ pos (n * n)
        below z k = let s = k.abs in omega (arith, ints)

    sum : {a b c : ℤ} {m : ℕ} → a ≤ℤ pos m → b ≤ℤ pos m → c ≤ℤ pos m → (a +ℤ b +ℤ c) ≤ℤ pos (3 * m)
    sum h k l = omega (arith, ints)

-- by the limit of their sum of weights and by the limit of their vectors
pub supports_bounded : (quadratic : ℤ) (dim limit : ℕ) (items : List WeightedVector) → AreSupports quadratic items → mass items ≤ℤ pos limit → All (IsDifference dim) (support_vectors items) → AreBounded (3 * (difference_limit dim * difference_limit dim)) limit items
supports_bounded quadratic dim limit items supports light differences = record {
  weights = supports.weights;
  some = mass_positive items supports.some supports.weights;
  light = light;
  short = all_vectors (λ v. squared_length v ≤ℤ pos (3 * (difference_limit dim * difference_limit dim))) items (All-weaker (IsDifference dim) (λ v. squared_length v ≤ℤ pos (3 * (difference_limit dim * difference_limit dim))) (λ v h. squared_length_within (difference_limit dim) v h.within) (support_vectors items) differences);
}

-- A distance that passes is the least between weighted means of the two sets.
use Rattle.std.proofs.Common.{◌≡◌, sym, ◌∙◌, subst, ◌<◌, ℤ, pos, ◌+ℤ◌, ◌-ℤ◌, ◌*ℤ◌, neg_ℤ, ◌≤ℤ◌, List, [], ◌∷◌, length, arith}
use Rattle.std.specs.Prelude.{All, slice_index_or}
use Rattle.std.proofs.lemmas.Int.{ints}
use Rattle.std.proofs.lemmas.List.Elements.{All-head, All-tail}
use Rattle.integers.proofs.Identities.{den-ring, read, polys, lits}
use Rattle.integers.proofs.Order.{nonneg_mul, nonneg_add, positive_mul, positive_from_one, at_least_one, square_nonneg, le_by, le_of_mul_le, nonneg_difference, combine1, combine2, nonneg_from_one}
use Rattle.integers.proofs.Sums.{total_positive}
use Rattle.integers.specs.Total.{total}
use Rattle.bounds_model.specs.Space.{SpacePoint, times, vector, dot, squared_length}
use Rattle.bounds_model.specs.Fractions.{IsAtMost}
use Rattle.bounds_model.specs.Best.{IsPrintedSize}
use Rattle.bounds_model.specs.Distance.{Weights, weighted, FitsDistance, distance_size}
use Rattle.bounds_model.specs.AnnulusAnswer.{WeightedPair, pair_sum}
use Rattle.bounds_model.specs.DistanceAnswer.{DistanceAnswer, weights_of, difference, pull, first_product, PassesDistance}
use Rattle.model_laws.proofs.SizeDenominators.{distance_denominator}
use Rattle.model_laws.proofs.WeightedVectors.{pull_is_difference, product_of_sum}
use Rattle.optimality.specs.Laws.{PassingDistancesAreBest}
use Rattle.optimality.proofs.PrintedSizes.{smallest_by_printed}
use Rattle.optimality.proofs.PairWeights.{weighted_of_pairs, total_of_pairs, length-at_numbers, weights_nonneg}

-- ---- the sum vector V of an answer: it leads from one weighted sum to the other, and its squared length is W e

-- what the conditions on an answer come to
record IsPulled (ps qs : List SpacePoint) (a : DistanceAnswer) : Type 0 where
  weight : pos 1 ≤ℤ pair_sum a.pairs
  first_sum : total (λ w. w) (weights_of ps qs a).first ≡ pair_sum a.pairs
  second_sum : total (λ w. w) (weights_of ps qs a).second ≡ pair_sum a.pairs
  apart : vector (weighted (weights_of ps qs a).second qs) (weighted (weights_of ps qs a).first ps) ≡ pull ps qs a.pairs
  square : squared_length (pull ps qs a.pairs) ≡ pair_sum a.pairs *ℤ first_product ps qs a.pairs

-- the conditions come to that
pulled : (ps qs : List SpacePoint) (a : DistanceAnswer) → PassesDistance ps qs a → IsPulled ps qs a
pulled ps qs a h =
    let in_ps : All (λ pair. pair.first < length ps) a.pairs = λ i d l. (h.numbers i d l).0 in
    let in_qs : All (λ pair. pair.second < length qs) a.pairs = λ i d l. (h.numbers i d l).1 in
    record {
      weight = at_least_one (total_positive (λ (pair : WeightedPair). pair.weight) a.pairs h.ranges.count.at_least (λ i d l. positive_from_one (h.weights i d l)));
      first_sum = total_of_pairs (λ pair. pair.first) ps a.pairs in_ps;
      second_sum = total_of_pairs (λ pair. pair.second) qs a.pairs in_qs;
      apart = (λ i. vector (weighted_of_pairs (λ pair. pair.second) qs a.pairs in_qs i) (weighted_of_pairs (λ pair. pair.first) ps a.pairs in_ps i)) ∙ sym (pull_is_difference ps qs a.pairs);
      square = product_of_sum (λ (pair : WeightedPair). pair.weight) (difference ps qs) (pull ps qs a.pairs) (first_product ps qs a.pairs) a.pairs h.same_products;
    }

-- the object of the answer fits
distance_fits : (ps qs : List SpacePoint) (a : DistanceAnswer) → PassesDistance ps qs a → FitsDistance ps qs (weights_of ps qs a)
distance_fits ps qs a h =
    let p = pulled ps qs a h in
    record {
      for_first = length-at_numbers _ 0 ps;
      for_second = length-at_numbers _ 0 qs;
      first = weights_nonneg (λ pair. pair.first) ps a.pairs h.weights;
      second = weights_nonneg (λ pair. pair.second) qs a.pairs h.weights;
      same_sum = p.first_sum ∙ sym p.second_sum;
      sum = subst (λ w. pos 1 ≤ℤ w) (sym p.first_sum) p.weight;
    }

-- and the answer prints its size, |V|²/W² = e/W
distance_prints : (ps qs : List SpacePoint) (a : DistanceAnswer) → PassesDistance ps qs a → IsPrintedSize (distance_size ps qs (weights_of ps qs a)) a.size
distance_prints ps qs a h =
    let p = pulled ps qs a h in
    let between = vector (weighted (weights_of ps qs a).second qs) (weighted (weights_of ps qs a).first ps) in
    record {
      lowest = h.ranges.size.lowest;
      same = subst (λ w. a.size.n *ℤ (w *ℤ w) ≡ squared_length between *ℤ a.size.d) (sym p.first_sum)
          (subst (λ v. a.size.n *ℤ (pair_sum a.pairs *ℤ pair_sum a.pairs) ≡ squared_length v *ℤ a.size.d) (sym p.apart)
          (plain a.size.n a.size.d (pair_sum a.pairs) (first_product ps qs a.pairs) (squared_length (pull ps qs a.pairs)) h.size p.square));
    }
  where
    plain : (N D W e VV : ℤ) → N *ℤ W ≡ e *ℤ D → VV ≡ W *ℤ e → N *ℤ (W *ℤ W) ≡ VV *ℤ D
    plain N D W e VV h k = combine2 W (neg_ℤ D) h k (read (N ∷ D ∷ W ∷ e ∷ VV ∷ []) (λ xs a b c d e. simp (a, b, c, d, e, polys) (den-ring xs _ _ tt)))

-- ---- every difference of the hulls has a product with V of at least e

-- a bound on the products of points is one on the product of their weighted sum
product_at_least : (v : SpacePoint) (b : ℤ) (weights : List ℤ) (points : List SpacePoint) → length weights ≡ length points → All (λ w. pos 0 ≤ℤ w) weights → All (λ p. b ≤ℤ dot v p) points
    → (total (λ w. w) weights *ℤ b) ≤ℤ dot v (weighted weights points)
product_at_least v b [] [] e n h = nothing v.x v.y v.z b
  where
    nothing : (x y z b : ℤ) → (pos 0 *ℤ b) ≤ℤ (x *ℤ pos 0 +ℤ y *ℤ pos 0 +ℤ z *ℤ pos 0)
    nothing x y z b = omega (arith, ints)
product_at_least v b [] (p ∷ points) e n h = absurd (omega arith)
product_at_least v b (w ∷ weights) [] e n h = absurd (omega arith)
product_at_least v b (w ∷ weights) (p ∷ points) e n h =
    let r = weighted weights points in
    plain b w (total (λ w. w) weights) v.x v.y v.z p.x p.y p.z r.x r.y r.z (All-head (λ w. pos 0 ≤ℤ w) w weights n) (All-head (λ p. b ≤ℤ dot v p) p points h)
    (product_at_least v b weights points (shorter e) (All-tail (λ w. pos 0 ≤ℤ w) w weights n) (All-tail (λ p. b ≤ℤ dot v p) p points h))
  where
    shorter : length (w ∷ weights) ≡ length (p ∷ points) → length weights ≡ length points
    shorter e = omega arith

    plain : (b w T vx vy vz px py pz rx ry rz : ℤ) → pos 0 ≤ℤ w → b ≤ℤ (vx *ℤ px +ℤ vy *ℤ py +ℤ vz *ℤ pz) → (T *ℤ b) ≤ℤ (vx *ℤ rx +ℤ vy *ℤ ry +ℤ vz *ℤ rz)
        → ((w +ℤ T) *ℤ b) ≤ℤ (vx *ℤ (w *ℤ px +ℤ rx) +ℤ vy *ℤ (w *ℤ py +ℤ ry) +ℤ vz *ℤ (w *ℤ pz +ℤ rz))
    plain b w T vx vy vz px py pz rx ry rz n h k =
        le_by (nonneg_add (nonneg_mul n (nonneg_difference h)) (nonneg_difference k))
        (read (b ∷ w ∷ T ∷ vx ∷ vy ∷ vz ∷ px ∷ py ∷ pz ∷ rx ∷ ry ∷ rz ∷ []) (λ xs a b c d e f g h i j k l. simp (a, b, c, d, e, f, g, h, i, j, k, l, polys) (den-ring xs _ _ tt)))

-- so where each difference of the sets has a product of at least e, the difference of weighted sums has one of at least w e
hulls_apart : (ps qs : List SpacePoint) (v : SpacePoint) (e : ℤ) (weights : Weights) → FitsDistance ps qs weights → All (λ p. All (λ q. e ≤ℤ dot v (vector q p)) qs) ps
    → (total (λ w. w) weights.first *ℤ e) ≤ℤ dot v (vector (weighted weights.second qs) (weighted weights.first ps))
hulls_apart ps qs v e weights fits apart =
    let w = total (λ w. w) weights.first in
    let P = weighted weights.first ps in
    let Q = weighted weights.second qs in
    let from_each : All (λ q. (w *ℤ e -ℤ dot v P) ≤ℤ dot (times (neg_ℤ w) v) q) qs
    = λ j d l.
    let q = slice_index_or qs j d in
    exchanged w e v.x v.y v.z q.x q.y q.z (dot v P)
    (product_at_least v (dot v q +ℤ e) weights.first ps fits.for_first fits.first
    (λ i b m. let p = slice_index_or ps i b in moved e v.x v.y v.z p.x p.y p.z q.x q.y q.z (apart i b m j d l))) in
    let bound = product_at_least (times (neg_ℤ w) v) (w *ℤ e -ℤ dot v P) weights.second qs fits.for_second fits.second from_each in
    together w e v.x v.y v.z P.x P.y P.z Q.x Q.y Q.z fits.sum (subst (λ s. (s *ℤ (w *ℤ e -ℤ dot v P)) ≤ℤ dot (times (neg_ℤ w) v) Q) (sym fits.same_sum) bound)
  where
    moved : (e vx vy vz px py pz qx qy qz : ℤ) → e ≤ℤ (vx *ℤ (px -ℤ qx) +ℤ vy *ℤ (py -ℤ qy) +ℤ vz *ℤ (pz -ℤ qz)) → ((vx *ℤ qx +ℤ vy *ℤ qy +ℤ vz *ℤ qz) +ℤ e) ≤ℤ (vx *ℤ px +ℤ vy *ℤ py +ℤ vz *ℤ pz)
    moved e vx vy vz px py pz qx qy qz h =
        le_by (nonneg_difference h) (read (e ∷ vx ∷ vy ∷ vz ∷ px ∷ py ∷ pz ∷ qx ∷ qy ∷ qz ∷ []) (λ xs a b c d e f g h i j. simp (a, b, c, d, e, f, g, h, i, j, polys) (den-ring xs _ _ tt)))

    exchanged : (w e vx vy vz qx qy qz P : ℤ) → (w *ℤ ((vx *ℤ qx +ℤ vy *ℤ qy +ℤ vz *ℤ qz) +ℤ e)) ≤ℤ P → (w *ℤ e -ℤ P) ≤ℤ (neg_ℤ w *ℤ vx *ℤ qx +ℤ neg_ℤ w *ℤ vy *ℤ qy +ℤ neg_ℤ w *ℤ vz *ℤ qz)
    exchanged w e vx vy vz qx qy qz P h =
        le_by (nonneg_difference h) (read (w ∷ e ∷ vx ∷ vy ∷ vz ∷ qx ∷ qy ∷ qz ∷ P ∷ []) (λ xs a b c d e f g h i. simp (a, b, c, d, e, f, g, h, i, polys) (den-ring xs _ _ tt)))

    together : (w e vx vy vz px py pz qx qy qz : ℤ) → pos 1 ≤ℤ w → (w *ℤ (w *ℤ e -ℤ (vx *ℤ px +ℤ vy *ℤ py +ℤ vz *ℤ pz))) ≤ℤ (neg_ℤ w *ℤ vx *ℤ qx +ℤ neg_ℤ w *ℤ vy *ℤ qy +ℤ neg_ℤ w *ℤ vz *ℤ qz)
        → (w *ℤ e) ≤ℤ (vx *ℤ (px -ℤ qx) +ℤ vy *ℤ (py -ℤ qy) +ℤ vz *ℤ (pz -ℤ qz))
    together w e vx vy vz px py pz qx qy qz pw h =
        le_of_mul_le w (positive_from_one pw) (le_by (nonneg_difference h) (read (w ∷ e ∷ vx ∷ vy ∷ vz ∷ px ∷ py ∷ pz ∷ qx ∷ qy ∷ qz ∷ []) (λ xs a b c d e f g h i j k. simp (a, b, c, d, e, f, g, h, i, j, k, polys) (den-ring xs _ _ tt))))

-- ---- so no two means are closer

-- where V.x is at least w e, and |V|² is W e: |x|²/w² is at least |V|²/W², since |W x - w V|² is not below 0
shadow : (W w e vx vy vz x y z : ℤ) → pos 0 ≤ℤ W → pos 0 ≤ℤ w → vx *ℤ vx +ℤ vy *ℤ vy +ℤ vz *ℤ vz ≡ W *ℤ e → (w *ℤ e) ≤ℤ (vx *ℤ x +ℤ vy *ℤ y +ℤ vz *ℤ z)
    → ((vx *ℤ vx +ℤ vy *ℤ vy +ℤ vz *ℤ vz) *ℤ (w *ℤ w)) ≤ℤ ((x *ℤ x +ℤ y *ℤ y +ℤ z *ℤ z) *ℤ (W *ℤ W))
shadow W w e vx vy vz x y z pW pw square h =
    le_by
    (nonneg_add (nonneg_add (nonneg_add (square_nonneg (W *ℤ x -ℤ w *ℤ vx)) (square_nonneg (W *ℤ y -ℤ w *ℤ vy))) (square_nonneg (W *ℤ z -ℤ w *ℤ vz))) (nonneg_mul (nonneg_mul (nonneg_mul two pW) pw) (nonneg_difference h)))
    (combine1 (pos 2 *ℤ (w *ℤ w)) (sym square) (read (W ∷ w ∷ e ∷ vx ∷ vy ∷ vz ∷ x ∷ y ∷ z ∷ []) (λ xs a b c d e f g h i. simp (a, b, c, d, e, f, g, h, i, polys, lits xs) (den-ring xs _ _ tt))))
  where
    two : pos 0 ≤ℤ pos 2
    two = omega (arith, ints)

-- no two means are closer than the size
none_smaller : (ps qs : List SpacePoint) (a : DistanceAnswer) → PassesDistance ps qs a → (other : Weights) → FitsDistance ps qs other → IsAtMost a.size (distance_size ps qs other)
none_smaller ps qs a h other fits =
    let p = pulled ps qs a h in
    let v = pull ps qs a.pairs in
    let e = first_product ps qs a.pairs in
    let w = total (λ w. w) other.first in
    let x = vector (weighted other.second qs) (weighted other.first ps) in
    plain a.size.n a.size.d (pair_sum a.pairs) w e (squared_length v) (squared_length x) p.weight h.ranges.size.lowest.not_negative.denominator h.size p.square
    (shadow (pair_sum a.pairs) w e v.x v.y v.z x.x x.y x.z (nonneg_from_one p.weight) (nonneg_from_one fits.sum) p.square (hulls_apart ps qs v e other fits h.no_smaller))
  where
    plain : (N D W w e VV XX : ℤ) → pos 1 ≤ℤ W → pos 1 ≤ℤ D → N *ℤ W ≡ e *ℤ D → VV ≡ W *ℤ e → (VV *ℤ (w *ℤ w)) ≤ℤ (XX *ℤ (W *ℤ W)) → (N *ℤ (w *ℤ w)) ≤ℤ (XX *ℤ D)
    plain N D W w e VV XX pW pD h k l =
        le_of_mul_le (W *ℤ W) (positive_mul (positive_from_one pW) (positive_from_one pW))
        (le_by (nonneg_mul (nonneg_from_one pD) (nonneg_difference l))
        (combine2 (neg_ℤ (W *ℤ (w *ℤ w))) (D *ℤ (w *ℤ w)) h k (read (N ∷ D ∷ W ∷ w ∷ e ∷ VV ∷ XX ∷ []) (λ xs a b c d e f g. simp (a, b, c, d, e, f, g, polys) (den-ring xs _ _ tt)))))

-- a distance that passes is the least
pub distance_law : PassingDistancesAreBest
distance_law ps qs a h =
    smallest_by_printed (FitsDistance ps qs) (distance_size ps qs) (distance_denominator ps qs) (weights_of ps qs a) a.size (distance_fits ps qs a h) (distance_prints ps qs a h) (none_smaller ps qs a h)

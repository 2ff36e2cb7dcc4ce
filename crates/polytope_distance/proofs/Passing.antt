-- A distance that supports hold passes what a checker asks.
use Rattle.std.proofs.Common.{◌≡◌, sym, subst, ◌<◌, ◌≤◌, ◌^◌, ℕ, pos, ◌≤ℤ◌, List, length, get_or, arith}
use Rattle.std.specs.Prelude.{All}
use Rattle.std.proofs.lemmas.Int.{ints}
use Rattle.bounds_model.specs.Numbers.{HasCount}
use Rattle.bounds_model.specs.Space.{SpacePoint, point_at, vector, dot, SamePlace}
use Rattle.bounds_model.specs.Fractions.{SameValue}
use Rattle.bounds_model.specs.Ranges.{IsFraction, IsSpaceRatio}
use Rattle.bounds_model.specs.AnnulusAnswer.{WeightedPair, pair_sum}
use Rattle.bounds_model.specs.DistanceAnswer.{DistanceAnswer, IsDirectionOf, PassesDistance}
use Rattle.kernel_laws.specs.Limits.{IsVectorWithin}
use Rattle.pair_sums.specs.declared.sums.PairSums.{PairSums}
use Rattle.pair_sums.specs.Sums.{AreSums, pull_of}
use Rattle.pair_sums.specs.Means.{mean_of, product_ratio}
use Rattle.pair_sums.proofs.PairWeights.{in_ranges, some_weight}
use Rattle.pair_sums.proofs.Products.{pull_is, first_product_is, product_nonneg, product_ratio_is}
use Rattle.pair_sums.proofs.WeightedMeans.{first_mean_is, second_mean_is, are_numbers}
use Rattle.polytope_distance.proofs.Listing.{past_the_end}
use Rattle.polytope_distance.proofs.DeterminedDistances.{DetermineDistance}

-- 1 to 4 pairs of listed points hold the distance, with these sums, the first pair naming these two points
pub record AreSupportItems (ps qs : List SpacePoint) (pairs : List WeightedPair) (s : PairSums) (p q : SpacePoint) : Type 0 where
  pub count : HasCount 1 4 pairs
  pub numbers : All (λ pair. (pair.first < length ps) × (pair.second < length qs)) pairs
  pub weight_limit : pair_sum pairs ≤ℤ pos (2 ^ 66)
  pub holds : DetermineDistance ps qs pairs
  pub sums : AreSums ps qs pairs s
  pub first : point_at ps (get_or pairs 0 past_the_end).first ≡ p
  pub second : point_at qs (get_or pairs 0 past_the_end).second ≡ q

-- the sum of the weights is at least 1
pub has_weight : {ps qs : List SpacePoint} {pairs : List WeightedPair} {s : PairSums} {p q : SpacePoint} → AreSupportItems ps qs pairs s p q → 1 ≤ s.weight
has_weight {pairs = pairs} {s = s} h = some_weight pairs s.weight h.count.at_least h.holds.weights h.sums.weight

-- and the product that gives the size is not below 0
pub not_below : {ps qs : List SpacePoint} {pairs : List WeightedPair} {s : PairSums} {p q : SpacePoint} → AreSupportItems ps qs pairs s p q → pos 0 ≤ℤ dot (pull_of s) (vector q p)
not_below {ps} {qs} {pairs} {s} {p} {q} h =
    let some : pos 1 ≤ℤ pair_sum pairs = subst (λ w. pos 1 ≤ℤ w) h.sums.weight (above (has_weight h)) in
    subst (λ v. pos 0 ≤ℤ dot v (vector q p)) (sym (pull_is h.sums))
    (subst (λ z. pos 0 ≤ℤ z) (first_product_is ps qs pairs past_the_end p q h.count.at_least h.first h.second) (product_nonneg ps qs pairs _ some h.holds.same_products))
  where
    above : {t : ℕ} → 1 ≤ t → pos 1 ≤ℤ pos t
    above h = omega (arith, ints)

-- so the answer that the sums give passes
pub passes : {ps qs : List SpacePoint} {s : PairSums} {p q : SpacePoint} (a : DistanceAnswer) → length ps ≤ 10000 → length qs ≤ 10000 → AreSupportItems ps qs a.pairs s p q
    → IsFraction a.size → SameValue a.size (product_ratio s p q) → IsSpaceRatio a.from → SamePlace a.from (mean_of s.weight s.first) → IsSpaceRatio a.to → SamePlace a.to (mean_of s.weight s.second)
    → IsDirectionOf (pull_of s) a.direction → IsVectorWithin (2 ^ 80) a.direction → PassesDistance ps qs a
passes {ps} {qs} {s} {p} {q} a few_first few_second h size value from at_from to at_to direction within =
    let numbers = are_numbers within in
    record {
      ranges = record {
        size = size;
        from = from;
        to = to;
        direction_x = numbers.0;
        direction_y = numbers.1;
        direction_z = numbers.2;
        count = h.count;
        pairs = in_ranges (length ps) (length qs) a.pairs few_first few_second h.numbers h.holds.weights h.weight_limit;
      };
      numbers = h.numbers;
      weights = h.holds.weights;
      weight_limit = h.weight_limit;
      same_products = h.holds.same_products;
      no_smaller = h.holds.no_smaller;
      size = subst (SameValue a.size) (product_ratio_is past_the_end p q h.sums h.count.at_least h.first h.second) value;
      from = subst (SamePlace a.from) (first_mean_is h.sums) at_from;
      to = subst (SamePlace a.to) (second_mean_is h.sums) at_to;
      direction = subst (λ v. IsDirectionOf v a.direction) (pull_is h.sums) direction;
    }

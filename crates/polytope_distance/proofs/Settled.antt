-- What a settled corral of differences holds.
use Rattle.std.proofs.Common.{◌≡◌, subst, ap, ◌<◌, ◌^◌, pos, ◌≤ℤ◌, List, length, get_or, map, arith}
use Rattle.std.specs.Prelude.{All, slice_get, Some, IsSomeAnd}
use Rattle.std.proofs.lemmas.List.{length-map, map-id}
use Rattle.std.proofs.lemmas.List.Elements.{All-map}
use Rattle.integers.proofs.Lists.{All-unmap}
use Rattle.bounds_model.specs.Space.{SpacePoint, point_at}
use Rattle.bounds_model.specs.AnnulusAnswer.{WeightedPair, pair_sum}
use Rattle.bounds_model.specs.Slacks.{WeightedVector, mass, IsLow}
use Rattle.bounded_coords.specs.declared.cloud.Cloud.{Cloud}
use Rattle.bounded_coords.specs.Clouds.{points_of}
use Rattle.corral.specs.declared.items.Id.{Id}
use Rattle.corral.specs.declared.items.Items.{Items}
use Rattle.corral.specs.declared.items.Items.TheVariants.{Differences}
use Rattle.corral.specs.declared.support.WeightedItem.{WeightedItem}
use Rattle.corral.specs.Items.{IsItem, item, first_points, second_points}
use Rattle.corral.specs.WeightedItems as corral
use Rattle.corral.specs.WeightedItems.{weighted_item, weighted_items}
use Rattle.corral.specs.Supports.{AreSupports}
use Rattle.pair_sums.specs.declared.sums.PairSums.{PairSums}
use Rattle.pair_sums.specs.Sums.{AreSums}
use Rattle.polytope_distance.specs.Supports.{weighted_pair}
use Rattle.polytope_distance.proofs.Listing.{past_the_end}
use Rattle.polytope_distance.proofs.SupportSums.{first_at, second_at}
use Rattle.polytope_distance.proofs.DeterminedDistances.{DetermineDistance, mass_is, determined_by_supports}
use Rattle.polytope_distance.proofs.Passing.{AreSupportItems}

-- points as they are
abbrev pub itself : SpacePoint → SpacePoint
itself p = p

-- the differences of two sets as items
abbrev pub differences : (K : Type 0) → Cloud SpacePoint → Cloud SpacePoint → Items K SpacePoint
differences K p q = Differences p q

-- the sum of the weights is within its limit
pub limit_by : (K : Type 0) (p q : Cloud SpacePoint) (determined : List WeightedItem) → mass (weighted_items itself (differences K p q) determined) ≤ℤ pos (2 ^ 66) → pair_sum (map weighted_pair determined) ≤ℤ pos (2 ^ 66)
limit_by K p q determined h = subst (λ m. m ≤ℤ pos (2 ^ 66)) (mass_is (map itself (points_of p)) (map itself (points_of q)) determined) h

-- no weight is below 1
pub weights_by : (K : Type 0) (p q : Cloud SpacePoint) (determined : List WeightedItem) → AreSupports (pos 0) (weighted_items itself (differences K p q) determined) → All (λ pair. pos 1 ≤ℤ pair.weight) (map weighted_pair determined)
weights_by K p q determined h = All-map (λ (pair : WeightedPair). pos 1 ≤ℤ pair.weight) weighted_pair determined (All-unmap (λ (s : WeightedVector). pos 1 ≤ℤ s.weight) (weighted_item itself (differences K p q)) determined h.weights)

-- the supports hold the distance
holds_by : (K : Type 0) (p q : Cloud SpacePoint) (determined : List WeightedItem) → AreSupports (pos 0) (weighted_items itself (differences K p q) determined)
    → ((id : Id) → IsItem (differences K p q) id → ¬ IsLow (pos 0) (weighted_items itself (differences K p q) determined) (item itself (differences K p q) id))
    → DetermineDistance (points_of p) (points_of q) (map weighted_pair determined)
holds_by K p q determined supports none_low =
    let ps = points_of p in
    let qs = points_of q in
    let as_many_ps = length-map ps itself in
    let as_many_qs = length-map qs itself in
    subst (λ qs. DetermineDistance ps qs (map weighted_pair determined)) (map-id qs)
    (subst (λ ps. DetermineDistance ps (map itself qs) (map weighted_pair determined)) (map-id ps)
    (determined_by_supports (map itself ps) (map itself qs) determined supports (λ i j l m. none_low (record { first = i; second = j }) (omega arith, omega arith))))

-- and the sums over them are those of the pairs
pub determined_by : (K : Type 0) (p q : Cloud SpacePoint) (items : Items K SpacePoint) (determined : List WeightedItem) (s : PairSums) (a b : SpacePoint)
    → items ≡ differences K p q → corral.AreSupportItems 3 (differences K p q) determined → AreSupports (pos 0) (weighted_items itself (differences K p q) determined) → mass (weighted_items itself (differences K p q) determined) ≤ℤ pos (2 ^ 66)
    → ((id : Id) → IsItem (differences K p q) id → ¬ IsLow (pos 0) (weighted_items itself (differences K p q) determined) (item itself (differences K p q) id))
    → AreSums (first_points items) (second_points items) (map weighted_pair determined) s
    → IsSomeAnd (slice_get determined 0) (λ s. slice_get (first_points items) s.id.first ≡ Some a) → IsSomeAnd (slice_get determined 0) (λ s. slice_get (second_points items) s.id.second ≡ Some b)
    → AreSupportItems (points_of p) (points_of q) (map weighted_pair determined) s a b
determined_by K p q items determined s a b is are_members supports limit none_low sums first second =
    let as_many = length-map determined weighted_pair in
    let is_p : first_points items ≡ points_of p = ap (λ i. first_points i) is in
    let is_q : second_points items ≡ points_of q = ap (λ i. second_points i) is in
    record {
      count = record { at_least = let h = are_members.count.at_least in omega arith; at_most = let h = are_members.count.at_most in omega arith };
      numbers = All-map (λ (pair : WeightedPair). (pair.first < length (points_of p)) × (pair.second < length (points_of q))) weighted_pair determined are_members.listed;
      weight_limit = limit_by K p q determined limit;
      holds = holds_by K p q determined supports none_low;
      sums = subst (λ qs. AreSums (points_of p) qs (map weighted_pair determined) s) is_q (subst (λ ps. AreSums ps (second_points items) (map weighted_pair determined) s) is_p sums);
      first = subst (λ ps. point_at ps (get_or (map weighted_pair determined) 0 past_the_end).first ≡ a) is_p (first_at (first_points items) determined 0 a past_the_end first);
      second = subst (λ qs. point_at qs (get_or (map weighted_pair determined) 0 past_the_end).second ≡ b) is_q (second_at (second_points items) determined 0 b past_the_end second);
    }

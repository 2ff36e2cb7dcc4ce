-- Sums over supports, one support after another.
use Rattle.std.proofs.Common.{◌≡◌, sym, subst, ◌∙◌, ap, ap₂, ℕ, zero, suc, ◌+◌, ◌<◌, ◌≤◌, ℤ, pos, ◌+ℤ◌, ◌≤ℤ◌, List, [], ◌∷◌, length, take, get_or, map, arith}
use Rattle.std.specs.Prelude.{All, slice_get, Some, IsSomeAnd}
use Rattle.std.proofs.lemmas.Int.{ints}
use Rattle.std.proofs.lemmas.List.{take_more, length-map}
use Rattle.std.proofs.lemmas.Option.{get_or_from_slice_get}
use Rattle.integers.proofs.Sums.{total-take_more}
use Rattle.bounds_model.specs.Space.{SpacePoint, point_at, origin}
use Rattle.bounds_model.specs.AnnulusAnswer.{WeightedPair, pair_sum}
use Rattle.corral.specs.declared.support.WeightedItem.{WeightedItem}
use Rattle.pair_sums.specs.declared.sums.PairSums.{PairSums}
use Rattle.pair_sums.specs.Sums.{Adds, AreSums}
use Rattle.pair_sums.proofs.PairWeights.{weights_of_some}
use Rattle.pair_sums.proofs.SumSteps.{sums_of_more}
use Rattle.polytope_distance.specs.Supports.{weighted_pair}

-- ---- a support as an answer lists it

-- its weight
pub weight_at : (members : List WeightedItem) (i : ℕ) (w : ℕ) (d : WeightedPair) → slice_get (map (λ s. s.weight) members) i ≡ Some w → (get_or (map weighted_pair members) i d).weight ≡ pos w
weight_at [] i w d h = cc
weight_at (s ∷ members) zero w d h = let e : s.weight ≡ w = cc in ap pos e
weight_at (s ∷ members) (suc i) w d h = weight_at members i w d h

-- its two points
pub first_at : (points : List SpacePoint) (members : List WeightedItem) (i : ℕ) (p : SpacePoint) (d : WeightedPair)
    → IsSomeAnd (slice_get members i) (λ s. slice_get points s.id.first ≡ Some p) → point_at points (get_or (map weighted_pair members) i d).first ≡ p
first_at points [] i p d h = absurd h
first_at points (s ∷ members) zero p d h = get_or_from_slice_get points s.id.first p origin h
first_at points (s ∷ members) (suc i) p d h = first_at points members i p d h

pub second_at : (points : List SpacePoint) (members : List WeightedItem) (i : ℕ) (q : SpacePoint) (d : WeightedPair)
    → IsSomeAnd (slice_get members i) (λ s. slice_get points s.id.second ≡ Some q) → point_at points (get_or (map weighted_pair members) i d).second ≡ q
second_at points [] i q d h = absurd h
second_at points (s ∷ members) zero q d h = get_or_from_slice_get points s.id.second q origin h
second_at points (s ∷ members) (suc i) q d h = second_at points members i q d h

-- ---- of some of the supports

-- no weight is below 0
nonneg : (members : List WeightedItem) → All (λ pair. pos 0 ≤ℤ pair.weight) (map weighted_pair members)
nonneg [] k d h = absurd (omega arith)
nonneg (s ∷ members) zero d h = omega (arith, ints)
nonneg (s ∷ members) (suc k) d h = nonneg members k d (omega arith)

-- the sums with the next support, of weight w, which names the points p and q
pub sums_of_next : (ps qs : List SpacePoint) (pairs : List WeightedPair) (i w : ℕ) (p q : SpacePoint) (d : WeightedPair) (old new : PairSums)
    → i < length pairs → (get_or pairs i d).weight ≡ pos w → point_at ps (get_or pairs i d).first ≡ p → point_at qs (get_or pairs i d).second ≡ q
    → AreSums ps qs (take i pairs) old → Adds w p q old new → AreSums ps qs (take (i + 1) pairs) new
sums_of_next ps qs pairs i w p q d old new below has_weight at_p at_q sums adds =
    subst (λ pairs. AreSums ps qs pairs new) (sym (take_more pairs i d below)) (sums_of_more ps qs (take i pairs) (get_or pairs i d) old new w p q has_weight at_p at_q sums adds)

-- the weight of the next support is within what is left
pub more_within : (ps qs : List SpacePoint) (members : List WeightedItem) (i w limit : ℕ) (d : WeightedPair) (old : PairSums)
    → i < length members → (get_or (map weighted_pair members) i d).weight ≡ pos w → AreSums ps qs (take i (map weighted_pair members)) old
    → pair_sum (map weighted_pair members) ≤ℤ pos limit → old.weight + w ≤ limit
more_within ps qs members i w limit d old below has_weight sums most =
    let pairs = map weighted_pair members in
    let as_many : length pairs ≡ length members = length-map members weighted_pair in
    conclude _ _ (old.weight) w limit (weights_of_some pairs (i + 1) (nonneg members)) most
    (total-take_more (λ (pair : WeightedPair). pair.weight) pairs i d (omega arith) ∙ ap₂ (λ a b. a +ℤ b) (sym sums.weight) has_weight)
  where
    conclude : (part all : ℤ) (t w limit : ℕ) → part ≤ℤ all → all ≤ℤ pos limit → part ≡ pos t +ℤ pos w → t + w ≤ limit
    conclude part all t w limit h k e = omega (arith, ints)

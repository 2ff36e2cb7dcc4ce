-- Sums over supports, one support after another.
use Rattle.std.proofs.Common.{◌≡◌, sym, subst, ◌∙◌, ap, ap₂, ℕ, zero, suc, ◌+◌, ◌<◌, ◌≤◌, ℤ, pos, ◌+ℤ◌, ◌≤ℤ◌, List, [], ◌∷◌, length, take, get_or, map, arith}
use Rattle.std.specs.Prelude.{All, slice_get, Some, IsSomeAnd}
use Rattle.std.proofs.lemmas.Int.{ints}
use Rattle.std.proofs.lemmas.List.{take_more, take_all, length-map}
use Rattle.integers.proofs.Sums.{total-take_more}
use Rattle.bounds_model.specs.Space.{SpacePoint, point_at, vector}
use Rattle.bounds_model.specs.BallAnswer.{Weighted, weight_sum, first_support}
use Rattle.corral.specs.declared.support.WeightedItem.{WeightedItem}
use Rattle.ball_sums.specs.declared.sums.Sums.{Sums}
use Rattle.ball_sums.specs.Sums.{Adds, AreSumsFrom}
use Rattle.ball_sums.proofs.Weights.{weights_of_some}
use Rattle.ball_sums.proofs.SupportSums.{sums_of_more}
use Rattle.min_ball.specs.Balls.{weighted_point}
use Rattle.kernel_laws.proofs.Points.{point_at_place}

-- what is read past the end of a list of supports
abbrev pub past_the_end : Weighted
past_the_end = record { point = 0; weight = pos 0 }

-- ---- a support as an answer lists it

-- its weight
pub weight_at : (members : List WeightedItem) (i : ℕ) (w : ℕ) (d : Weighted) → slice_get (map (λ s. s.weight) members) i ≡ Some w → (get_or (map weighted_point members) i d).weight ≡ pos w
weight_at [] i w d h = cc
weight_at (s ∷ members) zero w d h = let e : s.weight ≡ w = cc in ap pos e
weight_at (s ∷ members) (suc i) w d h = weight_at members i w d h

-- its point
pub point_of_support : {P : Type 0} (place : P → SpacePoint) (points : List P) (members : List WeightedItem) (i : ℕ) (p : P) (d : Weighted)
    → IsSomeAnd (slice_get members i) (λ s. slice_get points s.id.first ≡ Some p) → point_at (map place points) (get_or (map weighted_point members) i d).point ≡ place p
point_of_support place points [] i p d h = absurd h
point_of_support place points (s ∷ members) zero p d h = point_at_place place points s.id.first p h
point_of_support place points (s ∷ members) (suc i) p d h = point_of_support place points members i p d h

-- the first support's point
pub point_of_first : {P : Type 0} (place : P → SpacePoint) (points : List P) (members : List WeightedItem) (p : P)
    → IsSomeAnd (slice_get members 0) (λ s. slice_get points s.id.first ≡ Some p) → first_support (map place points) (map weighted_point members) ≡ place p
point_of_first place points [] p h = absurd h
point_of_first place points (s ∷ members) p h = point_at_place place points s.id.first p h

-- ---- of some of the supports

-- no weight is below 0
nonneg : (members : List WeightedItem) → All (λ s. pos 0 ≤ℤ s.weight) (map weighted_point members)
nonneg [] k d h = absurd (omega arith)
nonneg (s ∷ members) zero d h = omega (arith, ints)
nonneg (s ∷ members) (suc k) d h = nonneg members k d (omega arith)

-- the sums with the next support, of weight w at the point p, to which v is the vector
pub sums_of_next : (from p v : SpacePoint) (points : List SpacePoint) (supports : List Weighted) (i w : ℕ) (d : Weighted) (old new : Sums)
    → i < length supports → (get_or supports i d).weight ≡ pos w → point_at points (get_or supports i d).point ≡ p
    → AreSumsFrom from points (take i supports) old → v ≡ vector from p → Adds w v old new → AreSumsFrom from points (take (i + 1) supports) new
sums_of_next from p v points supports i w d old new below has_weight is_at sums is_v adds =
    subst (λ ss. AreSumsFrom from points ss new) (sym (take_more supports i d below))
    (sums_of_more points from (take i supports) (get_or supports i d) old new w v has_weight (ap (vector from) is_at ∙ sym is_v) sums adds)

-- the weight of the next support is within what is left
pub more_within : (from : SpacePoint) (points : List SpacePoint) (members : List WeightedItem) (i w limit : ℕ) (d : Weighted) (old : Sums)
    → i < length members → (get_or (map weighted_point members) i d).weight ≡ pos w → AreSumsFrom from points (take i (map weighted_point members)) old
    → weight_sum (map weighted_point members) ≤ℤ pos limit → old.weight + w ≤ limit
more_within from points members i w limit d old below has_weight sums most =
    let listed = map weighted_point members in
    let as_many : length listed ≡ length members = length-map members weighted_point in
    conclude _ _ (old.weight) w limit (weights_of_some listed (i + 1) (nonneg members)) most
    (total-take_more (λ (s : Weighted). s.weight) listed i d (omega arith) ∙ ap₂ (λ a b. a +ℤ b) (sym sums.weight) has_weight)
  where
    conclude : (part all : ℤ) (t w limit : ℕ) → part ≤ℤ all → all ≤ℤ pos limit → part ≡ pos t +ℤ pos w → t + w ≤ limit
    conclude part all t w limit h k e = omega (arith, ints)

-- the sums over all, as seen from the first support
pub sums_of_all : {P : Type 0} (place : P → SpacePoint) (points : List P) (members : List WeightedItem) (p : P) (i : ℕ) (sums : Sums)
    → IsSomeAnd (slice_get members 0) (λ s. slice_get points s.id.first ≡ Some p) → length members ≤ i → AreSumsFrom (place p) (map place points) (take i (map weighted_point members)) sums
    → AreSumsFrom (first_support (map place points) (map weighted_point members)) (map place points) (map weighted_point members) sums
sums_of_all place points members p i sums is_first all h =
    let supports = map weighted_point members in
    let as_many : length supports ≡ length members = length-map members weighted_point in
    subst (λ from. AreSumsFrom from (map place points) supports sums) (sym (point_of_first place points members p is_first))
    (subst (λ s. AreSumsFrom (place p) (map place points) s sums) (take_all i supports (omega arith)) h)

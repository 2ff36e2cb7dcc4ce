-- Pairs that name points, and pairs whose weights are not within the limits.
use Rattle.std.proofs.Common.{◌≡◌, subst, ◌∙◌, ap, ℕ, ◌+◌, ◌<◌, ◌≤◌, ◌^◌, ◌⊎◌, inl, inr, ℤ, pos, ◌+ℤ◌, ◌<ℤ◌, ◌≤ℤ◌, List, length, map, take, get_or, arith}
use Rattle.std.specs.Prelude.{All, slice_get, Some}
use Rattle.std.proofs.lemmas.Int.{ints, by_lt_z}
use Rattle.std.proofs.lemmas.List.{map_more, take-map, length-map}
use Rattle.std.proofs.lemmas.List.Elements.{All-weaker}
use Rattle.std.proofs.lemmas.Option.{get_or_from_slice_get}
use Rattle.integers.proofs.Sums.{total-one_more}
use Rattle.bounds_model.specs.Space.{SpacePoint, point_at, origin}
use Rattle.bounds_model.specs.AnnulusAnswer as model
use Rattle.bounds_model.specs.AnnulusAnswer.{pair_sum}
use Rattle.answers.specs.declared.pairs.WeightedPair.{WeightedPair}
use Rattle.answers.specs.Answers.{pair_of}
use Rattle.pair_sums.proofs.PairWeights.{weights_of_some}
use Rattle.distance_check.specs.DeterminedDistances.{HasPairLimits}
use Rattle.integers.proofs.Lists.{All-unmap}
use Rattle.integers.proofs.Order.{nonneg_from_one}

-- what is read past the end of a list of pairs
abbrev pub no_pair : WeightedPair
no_pair = record { first = 0; second = 0; weight = 0 }

-- pairs that are there
pub some_pairs : (pairs : List WeightedPair) → 1 ≤ length (map pair_of pairs) → 1 ≤ length pairs
some_pairs pairs h = subst (λ n. 1 ≤ n) (length-map pairs pair_of) h

-- each names two points
pub names_points : {m n : ℕ} (pairs : List WeightedPair) (i : ℕ) → All (λ pair. (pair.first < m) × (pair.second < n)) (map pair_of pairs) → i < length pairs
    → ((get_or pairs i no_pair).first < m) × ((get_or pairs i no_pair).second < n)
names_points {m} {n} pairs i all below = All-unmap (λ (pair : model.WeightedPair). (pair.first < m) × (pair.second < n)) pair_of pairs all i no_pair below

-- the numbered point
pub at_number : (points : List SpacePoint) (i : ℕ) (p : SpacePoint) → slice_get points i ≡ Some p → point_at points i ≡ p
at_number points i p h = get_or_from_slice_get points i p origin h

-- the weights before a pair, and its own, are at most all
prefix_sum : (pairs : List WeightedPair) (i : ℕ) → i < length pairs → All (λ pair. pos 1 ≤ℤ pair.weight) (map pair_of pairs)
    → (pair_sum (map pair_of (take i pairs)) +ℤ pos (get_or pairs i no_pair).weight) ≤ℤ pair_sum (map pair_of pairs)
prefix_sum pairs i below some =
    let front = map pair_of (take (i + 1) pairs) in
    let first : pair_sum front ≡ pair_sum (map pair_of (take i pairs)) +ℤ pos (get_or pairs i no_pair).weight = ap pair_sum (map_more pair_of pairs i no_pair below) ∙ total-one_more (λ (pair : model.WeightedPair). pair.weight) (map pair_of (take i pairs)) (pair_of (get_or pairs i no_pair)) in
    let part : pair_sum front ≤ℤ pair_sum (map pair_of pairs) = subst (λ ps. pair_sum ps ≤ℤ pair_sum (map pair_of pairs)) (take-map pair_of (i + 1) pairs)
    (weights_of_some (map pair_of pairs) (i + 1) (All-weaker (λ (pair : model.WeightedPair). pos 1 ≤ℤ pair.weight) (λ pair. pos 0 ≤ℤ pair.weight) (λ pair h. nonneg_from_one h) (map pair_of pairs) some)) in
    subst (λ z. z ≤ℤ pair_sum (map pair_of pairs)) first part

-- a pair without weight, or past the limit of the weights, is not within the limits
pub too_heavy : {m n : ℕ} (pairs : List WeightedPair) (i t : ℕ) → i < length pairs → pos t ≡ pair_sum (map pair_of (take i pairs))
    → ((get_or pairs i no_pair).weight ≡ 0) ⊎ (2 ^ 66 < t + (get_or pairs i no_pair).weight) → HasPairLimits m n (map pair_of pairs) → ⊥
too_heavy pairs i t below is (inl zero) limits =
    let own : pos 1 ≤ℤ pos (get_or pairs i no_pair).weight = All-unmap (λ (pair : model.WeightedPair). pos 1 ≤ℤ pair.weight) pair_of pairs limits.weights i no_pair below in
    nothing (get_or pairs i no_pair).weight zero own
  where
    nothing : (n : ℕ) → n ≡ 0 → pos 1 ≤ℤ pos n → ⊥
    nothing n e h = omega (arith, ints)
too_heavy pairs i t below is (inr over) limits =
    past t (get_or pairs i no_pair).weight (2 ^ 66) (pair_sum (map pair_of (take i pairs))) (pair_sum (map pair_of pairs)) is over (prefix_sum pairs i below limits.weights) limits.weight_limit
  where
    past : (t w limit : ℕ) (before all : ℤ) → pos t ≡ before → limit < t + w → (before +ℤ pos w) ≤ℤ all → all ≤ℤ pos limit → ⊥
    past t w limit before all e h k l = omega (arith, ints)

-- ---- signs

-- no number is below 0 and not
pub below_clash : {z : ℤ} → z <ℤ pos 0 → pos 0 ≤ℤ z → ⊥
below_clash {z} h k = omega (arith, ints)

-- one that is not below 0
pub not_below : {z : ℤ} → (z <ℤ pos 0 → ⊥) → pos 0 ≤ℤ z
not_below {z} h = by_lt_z z (pos 0) (λ below. absurd (h below)) (λ above. above)

-- ---- fractions in machine numbers

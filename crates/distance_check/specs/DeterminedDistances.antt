-- Distances that weighted pairs of points determine.
use Rattle.std.specs.Prelude.{◌≡◌, ℕ, ◌<◌, ◌≤◌, ◌^◌, pos, ◌≤ℤ◌, List, length, All}
use Rattle.bounds_model.specs.Space.{SpacePoint, point_at, vector, dot, SamePlace}
use Rattle.bounds_model.specs.Fractions.{SameValue}
use Rattle.bounds_model.specs.Ranges.{IsFraction, IsSpaceRatio, IsNumber}
use Rattle.bounds_model.specs.AnnulusAnswer.{WeightedPair, pair_sum}
use Rattle.bounds_model.specs.DistanceAnswer as model
use Rattle.bounds_model.specs.DistanceAnswer.{difference, pull, first_product, mean, IsDirectionOf}
use Rattle.answers.specs.declared.pairs.DistanceAnswer.{DistanceAnswer}
use Rattle.answers.specs.Answers.{space_vector_of}
use Rattle.pair_sums.specs.declared.sums.PairSums.{PairSums}
use Rattle.pair_sums.specs.Sums.{IsInRange, AreSums}

-- there are pairs, which name points of two sets with so many, and their weights are within their limits
pub record HasPairLimits (first second : ℕ) (pairs : List WeightedPair) : Type 0 where
  pub some : 1 ≤ length pairs
  pub numbers : All (λ pair. (pair.first < first) × (pair.second < second)) pairs
  pub weights : All (λ pair. pos 1 ≤ℤ pair.weight) pairs
  pub weight_limit : pair_sum pairs ≤ℤ pos (2 ^ 66)

-- the sums over all pairs
pub record ArePairSums (ps qs : List SpacePoint) (pairs : List WeightedPair) (s : PairSums) : Type 0 where
  pub some : 1 ≤ s.weight
  pub range : IsInRange s
  pub sums : AreSums ps qs pairs s

-- the answer with these pairs
abbrev pub answer_by : DistanceAnswer → List WeightedPair → model.DistanceAnswer
answer_by a pairs = record { size = a.size; from = a.from; to = a.to; direction = space_vector_of a.direction; pairs = pairs }

-- the entries of a vector are numbers of an answer
pub record AreNumbers (v : SpacePoint) : Type 0 where
  pub x : IsNumber v.x
  pub y : IsNumber v.y
  pub z : IsNumber v.z

-- what is left to ask of an answer whose pairs are within their limits
pub record IsShown (ps qs : List SpacePoint) (a : model.DistanceAnswer) : Type 0 where
  pub same_products : All (λ pair. dot (pull ps qs a.pairs) (difference ps qs pair) ≡ first_product ps qs a.pairs) a.pairs
  pub size_in_range : IsFraction a.size
  pub size : SameValue a.size (record { n = first_product ps qs a.pairs; d = pair_sum a.pairs })
  pub from_in_range : IsSpaceRatio a.from
  pub from : SamePlace a.from (mean (λ pair. point_at ps pair.first) a.pairs)
  pub to_in_range : IsSpaceRatio a.to
  pub to : SamePlace a.to (mean (λ pair. point_at qs pair.second) a.pairs)
  pub direction_in_range : AreNumbers a.direction
  pub direction : IsDirectionOf (pull ps qs a.pairs) a.direction
  pub no_smaller : All (λ p. All (λ q. first_product ps qs a.pairs ≤ℤ dot (pull ps qs a.pairs) (vector q p)) qs) ps

-- The answers on distances, and what a checker asks of them.
use Rattle.std.specs.Prelude.{◌≡◌, ◌⊎◌, ℕ, ◌+◌, ◌^◌, ◌<◌, ◌==◌, if◌then◌else◌, ℤ, pos, ◌≤ℤ◌, List, [], ◌∷◌, length, All}
use Rattle.integers.specs.Total.{total}
use Rattle.bounds_model.specs.Numbers.{HasCount}
use Rattle.bounds_model.specs.Space.{SpacePoint, SpaceRatio, origin, point_at, vector, times, dot, weighted_sum, SamePlace}
use Rattle.bounds_model.specs.Fractions.{Fraction, SameValue, HaveNoCommonFactor}
use Rattle.bounds_model.specs.Distance.{Weights}
use Rattle.bounds_model.specs.AnnulusAnswer.{WeightedPair, IsPairInRange, pair_sum}
use Rattle.bounds_model.specs.Ranges.{IsFraction, IsSpaceRatio, IsNumber}

-- a point of each hull, the direction between them, and weighted pairs of points that they are the means of
pub record DistanceAnswer : Type 0 where
  pub size : Fraction
  pub from : SpaceRatio
  pub to : SpaceRatio
  pub direction : SpacePoint
  pub pairs : List WeightedPair

-- the sum of the weights of the pairs whose name is this number
abbrev pub weight_of : (WeightedPair → ℕ) → List WeightedPair → ℕ → ℤ
weight_of name pairs number = total (λ pair. if name pair == number then pair.weight else pos 0) pairs

-- the value of f at the number of each point, from this number on
abbrev pub at_numbers : (ℕ → ℤ) → ℕ → List SpacePoint → List ℤ
at_numbers f number [] = []
at_numbers f number (p ∷ rest) = f number ∷ at_numbers f (number + 1) rest

-- for each point the sum of the weights of the pairs that name it
abbrev pub weights_of : List SpacePoint → List SpacePoint → DistanceAnswer → Weights
weights_of ps qs a = record {
  first = at_numbers (weight_of (λ pair. pair.first) a.pairs) 0 ps;
  second = at_numbers (weight_of (λ pair. pair.second) a.pairs) 0 qs;
}

-- all numbers are in their ranges
pub record DistanceRanges (a : DistanceAnswer) : Type 0 where
  pub size : IsFraction a.size
  pub from : IsSpaceRatio a.from
  pub to : IsSpaceRatio a.to
  pub direction_x : IsNumber a.direction.x
  pub direction_y : IsNumber a.direction.y
  pub direction_z : IsNumber a.direction.z
  pub count : HasCount 1 4 a.pairs
  pub pairs : All IsPairInRange a.pairs

-- from the second point of a pair to the first
abbrev pub difference : List SpacePoint → List SpacePoint → WeightedPair → SpacePoint
difference ps qs pair = vector (point_at qs pair.second) (point_at ps pair.first)

-- the pull, which is the moment of the differences
abbrev pub pull : List SpacePoint → List SpacePoint → List WeightedPair → SpacePoint
pull ps qs pairs = weighted_sum (λ pair. pair.weight) (difference ps qs) pairs

-- the product of the pull with the first difference
abbrev pub first_product : List SpacePoint → List SpacePoint → List WeightedPair → ℤ
first_product ps qs [] = pos 0
first_product ps qs (pair ∷ rest) = dot (pull ps qs (pair ∷ rest)) (difference ps qs pair)

-- the weighted mean of the points that the pairs name
abbrev pub mean : (WeightedPair → SpacePoint) → List WeightedPair → SpaceRatio
mean at pairs =
    let sum = weighted_sum (λ pair. pair.weight) at pairs in
    record { x = sum.x; y = sum.y; z = sum.z; w = pair_sum pairs }

-- v is d taken a whole number of times, at least once, and the entries of d have no common factor
pub record IsMultipleOfLowest (v d : SpacePoint) : Type 0 where
  pub factor : ℤ
  pub positive : pos 1 ≤ℤ factor
  pub multiple : v ≡ times factor d
  pub lowest : HaveNoCommonFactor (d.x ∷ d.y ∷ d.z ∷ [])

-- d is v divided by the common factor of its entries, or 0 where v is 0
abbrev pub IsDirectionOf : SpacePoint → SpacePoint → Type 0
IsDirectionOf v d = ((v ≡ origin) × (d ≡ origin)) ⊎ IsMultipleOfLowest v d

-- what a checker asks of a distance
pub record PassesDistance (ps qs : List SpacePoint) (a : DistanceAnswer) : Type 0 where
  pub ranges : DistanceRanges a
  pub numbers : All (λ pair. (pair.first < length ps) × (pair.second < length qs)) a.pairs
  pub weights : All (λ pair. pos 1 ≤ℤ pair.weight) a.pairs
  pub weight_limit : pair_sum a.pairs ≤ℤ pos (2 ^ 66)
  pub same_products : All (λ pair. dot (pull ps qs a.pairs) (difference ps qs pair) ≡ first_product ps qs a.pairs) a.pairs
  pub no_smaller : All (λ p. All (λ q. first_product ps qs a.pairs ≤ℤ dot (pull ps qs a.pairs) (vector q p)) qs) ps
  pub size : SameValue a.size (record { n = first_product ps qs a.pairs; d = pair_sum a.pairs })
  pub from : SamePlace a.from (mean (λ pair. point_at ps pair.first) a.pairs)
  pub to : SamePlace a.to (mean (λ pair. point_at qs pair.second) a.pairs)
  pub direction : IsDirectionOf (pull ps qs a.pairs) a.direction

-- Centres, levels and weighted pairs, as the checkers of annuli and shells see them: all at their places in space, those of the plane at height 0.
use Rattle.std.specs.Prelude.{◌≡◌, ℕ, ◌+◌, ◌*◌, ◌^◌, ◌<◌, ◌≤◌, ℤ, pos, ◌+ℤ◌, ◌-ℤ◌, ◌*ℤ◌, ◌≤ℤ◌, List, length, map, All}
use Rattle.integers.specs.Size.{Size}
use Rattle.integers.specs.Extremes.{greatest, least}
use Rattle.bounds_model.specs.Numbers.{IsWithin}
use Rattle.bounds_model.specs.Space.{SpacePoint, SpaceRatio, squared_length}
use Rattle.bounds_model.specs.Fractions.{Fraction, SameValue}
use Rattle.bounds_model.specs.Ranges.{IsFraction}
use Rattle.bounds_model.specs.AnnulusAnswer as model
use Rattle.bounds_model.specs.AnnulusAnswer.{pair_sum}
use Rattle.bounds_model.specs.ShellAnswer.{power, weighted_differences}
use Rattle.bounded_coords.specs.declared.cloud.Cloud.{Cloud}
use Rattle.bounded_coords.specs.Clouds.{points_of}
use Rattle.answers.specs.declared.pairs.WeightedPair.{WeightedPair}
use Rattle.ring_check.specs.declared.centres.Centre.{Centre}
use Rattle.ring_check.specs.declared.levels.Levels.{Levels}
use Rattle.ring_check.specs.declared.pairs.PairSums.{PairSums}

-- the points of a cloud at their places in space
abbrev pub places_of : {P : Type 0} → (P → SpacePoint) → Cloud P → List SpacePoint
places_of place cloud = map place (points_of cloud)

-- a fraction in its range, with this value
abbrev pub HasValue : Fraction → Fraction → Type 0
HasValue a v = IsFraction a × SameValue a v

-- ---- centres

-- the centre
abbrev pub ratio_of : Centre → SpaceRatio
ratio_of c = record { x = c.x; y = c.y; z = c.z; w = c.w }

-- its denominator and its numerators are within limits
pub record IsWithinLimits (denominator numerator : ℕ) (c : SpaceRatio) : Type 0 where
  pub w : IsWithin denominator c.w
  pub x : IsWithin numerator c.x
  pub y : IsWithin numerator c.y
  pub z : IsWithin numerator c.z

-- how large its numbers are, by the limit of its denominator: those of its numerators are 2^16 times that, for annuli and for shells
pub record IsCentre (limit : ℕ) (c : SpaceRatio) : Type 0 where
  pub x : Size (limit * 2 ^ 16) c.x
  pub y : Size (limit * 2 ^ 16) c.y
  pub z : Size (limit * 2 ^ 16) c.z
  pub w : Size limit c.w
  pub some : pos 1 ≤ℤ c.w

-- ---- levels

-- how large levels around the centre are, by the limit of its denominator
abbrev pub HasLevelSize : SpaceRatio → ℤ → Type 0
HasLevelSize c z = (limit : ℕ) → IsCentre limit c → Size (limit * 2 ^ 38) z

-- the greatest and the least level of the points
pub record AreLevels (c : SpaceRatio) (points : List SpacePoint) (h : Levels) : Type 0 where
  pub greatest : h.greatest ≡ greatest (power c) points
  pub least : h.least ≡ least (power c) points
  pub greatest_size : HasLevelSize c h.greatest
  pub least_size : HasLevelSize c h.least

-- ---- pairs

-- a pair of two of so many points, with a weight that is not past the limit of the sum
abbrev pub IsSmallPair : ℕ → ℕ → WeightedPair → Type 0
IsSmallPair limit count pair = (pair.first < count) × (pair.second < count) × (1 ≤ pair.weight) × (pair.weight ≤ limit)

-- the sums with a pair more, which has this weight and these points
pub record AddsPair (w : ℕ) (p q : SpacePoint) (old new : PairSums) : Type 0 where
  pub weight : new.weight ≡ old.weight + w
  pub x : new.x ≡ old.x +ℤ pos w *ℤ (p.x -ℤ q.x)
  pub y : new.y ≡ old.y +ℤ pos w *ℤ (p.y -ℤ q.y)
  pub z : new.z ≡ old.z +ℤ pos w *ℤ (p.z -ℤ q.z)
  pub squared_length : new.squared_length ≡ old.squared_length +ℤ pos w *ℤ (squared_length p -ℤ squared_length q)

-- the greatest squared length of a point
abbrev pub square_limit : ℕ
square_limit = 120000000000

-- the greatest weight times the greatest difference
abbrev pub pair_limit : ℕ
pair_limit = 2 ^ 50 * square_limit

-- how large the sums over so many pairs are
pub record AreSmallSums (count : ℕ) (s : PairSums) : Type 0 where
  pub weight : s.weight ≤ count * 2 ^ 50
  pub x : Size (count * pair_limit) s.x
  pub y : Size (count * pair_limit) s.y
  pub z : Size (count * pair_limit) s.z
  pub squared_length : Size (count * pair_limit) s.squared_length

-- the sums over all pairs
pub record ArePairSums (points : List SpacePoint) (pairs : List model.WeightedPair) (s : PairSums) : Type 0 where
  pub weight : pos s.weight ≡ pair_sum pairs
  pub x : s.x ≡ weighted_differences points (λ p. p.x) pairs
  pub y : s.y ≡ weighted_differences points (λ p. p.y) pairs
  pub z : s.z ≡ weighted_differences points (λ p. p.z) pairs
  pub squared_length : s.squared_length ≡ weighted_differences points squared_length pairs

-- there are pairs of so many points, each has a weight, and all together weigh at most so much
pub record HavePairLimits (limit count : ℕ) (pairs : List model.WeightedPair) : Type 0 where
  pub some : 1 ≤ length pairs
  pub numbers : All (λ pair. (pair.first < count) × (pair.second < count)) pairs
  pub weights : All (λ pair. pos 1 ≤ℤ pair.weight) pairs
  pub weight_limit : pair_sum pairs ≤ℤ pos limit

-- such pairs are balanced, and the mean of their differences of squared lengths is the size
pub record ShowSize (limit : ℕ) (points : List SpacePoint) (size : Fraction) (pairs : List model.WeightedPair) : Type 0 where
  pub limits : HavePairLimits limit (length points) pairs
  pub balanced_x : weighted_differences points (λ p. p.x) pairs ≡ pos 0
  pub balanced_y : weighted_differences points (λ p. p.y) pairs ≡ pos 0
  pub balanced_z : weighted_differences points (λ p. p.z) pairs ≡ pos 0
  pub mean : HasValue size (record { n = weighted_differences points squared_length pairs; d = pair_sum pairs })

-- the same by the sums
pub record SumsShowSize (size : Fraction) (s : PairSums) : Type 0 where
  pub balanced_x : s.x ≡ pos 0
  pub balanced_y : s.y ≡ pos 0
  pub balanced_z : s.z ≡ pos 0
  pub mean : HasValue size (record { n = s.squared_length; d = pos s.weight })

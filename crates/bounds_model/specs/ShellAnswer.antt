-- The answers on shells, and what a checker asks of them.
use Rattle.std.specs.Prelude.{◌≡◌, ◌^◌, ◌<◌, ℤ, pos, ◌+ℤ◌, ◌-ℤ◌, ◌*ℤ◌, ◌≤ℤ◌, List, length, All}
use Rattle.integers.specs.Total.{total}
use Rattle.integers.specs.Extremes.{greatest, least}
use Rattle.bounds_model.specs.Numbers.{IsWithin, HasCount}
use Rattle.bounds_model.specs.Space.{SpacePoint, SpaceRatio, point_at, entries, dot, squared_length}
use Rattle.bounds_model.specs.Fractions.{Fraction, SameValue}
use Rattle.bounds_model.specs.Ranges.{IsFraction, IsSpaceRatio, IsNumber}
use Rattle.bounds_model.specs.AnnulusAnswer.{WeightedPair, IsPairInRange, pair_sum}
use Rattle.bounds_model.specs.Shell.{Shell}

-- a shell's centre, its least and its greatest level, and weighted pairs of points
pub record ShellAnswer : Type 0 where
  pub size : Fraction
  pub centre : SpaceRatio
  pub low : ℤ
  pub high : ℤ
  pub pairs : List WeightedPair

-- the squared radius of the sphere of this level around a centre
abbrev pub squared_radius_at : SpaceRatio → ℤ → Fraction
squared_radius_at c h = record { n = c.w *ℤ h +ℤ squared_length (entries c); d = c.w *ℤ c.w }

-- the shell around this centre, between the spheres of these levels
abbrev pub shell_of : ShellAnswer → Shell
shell_of a = record { centre = a.centre; inner = squared_radius_at a.centre a.low; outer = squared_radius_at a.centre a.high }

-- all numbers are in their ranges
pub record ShellRanges (a : ShellAnswer) : Type 0 where
  pub size : IsFraction a.size
  pub centre : IsSpaceRatio a.centre
  pub low : IsNumber a.low
  pub high : IsNumber a.high
  pub count : HasCount 1 4 a.pairs
  pub pairs : All IsPairInRange a.pairs

-- a point's level: w times its power with regard to the sphere around the centre through the origin, which is its squared distance from the centre, less a term
-- that is the same for all points
abbrev pub power : SpaceRatio → SpacePoint → ℤ
power c p = c.w *ℤ squared_length p -ℤ pos 2 *ℤ dot (entries c) p

-- the weighted sum of the differences of f at the points of the pairs
abbrev pub weighted_differences : List SpacePoint → (SpacePoint → ℤ) → List WeightedPair → ℤ
weighted_differences points f pairs = total (λ pair. pair.weight *ℤ (f (point_at points pair.first) -ℤ f (point_at points pair.second))) pairs

-- what a checker asks of a shell
pub record PassesShell (points : List SpacePoint) (a : ShellAnswer) : Type 0 where
  pub ranges : ShellRanges a
  pub numbers : All (λ pair. (pair.first < length points) × (pair.second < length points)) a.pairs
  pub w_limit : a.centre.w ≤ℤ pos (2 ^ 50)
  pub x_limit : IsWithin (2 ^ 66) a.centre.x
  pub y_limit : IsWithin (2 ^ 66) a.centre.y
  pub z_limit : IsWithin (2 ^ 66) a.centre.z
  pub weights : All (λ pair. pos 1 ≤ℤ pair.weight) a.pairs
  pub weight_limit : pair_sum a.pairs ≤ℤ pos (2 ^ 50)
  pub balanced_x : weighted_differences points (λ p. p.x) a.pairs ≡ pos 0
  pub balanced_y : weighted_differences points (λ p. p.y) a.pairs ≡ pos 0
  pub balanced_z : weighted_differences points (λ p. p.z) a.pairs ≡ pos 0
  pub low : a.low ≡ least (power a.centre) points
  pub high : a.high ≡ greatest (power a.centre) points
  pub size : SameValue a.size (record { n = a.high -ℤ a.low; d = a.centre.w })
  pub least_size : SameValue a.size (record { n = weighted_differences points squared_length a.pairs; d = pair_sum a.pairs })

-- Balls that weighted points determine.
use Rattle.std.specs.Prelude.{ℕ, ◌<◌, ◌≤◌, pos, ◌≤ℤ◌, List, length, map, All}
use Rattle.std.specs.Coded.{Coded-set, coded_ℕ, coded_ℤ, le_prop}
use lib.Dec.{T_prop}
use Rattle.bounds_model.specs.Space.{SpacePoint}
use Rattle.bounds_model.specs.Fractions.{Fraction, SameValue}
use Rattle.bounds_model.specs.Ranges.{IsFraction}
use Rattle.bounds_model.specs.BallAnswer.{Weighted, weight_sum, supported_size, IsOnBall, IsNotOutside}
use Rattle.bounded_coords.specs.declared.cloud.Cloud.{Cloud}
use Rattle.bounded_coords.specs.Clouds.{points_of}
use Rattle.kernel_laws.specs.Limits.{ball_limit}
use Rattle.ball_sums.specs.declared.sums.Sums.{Sums}
use Rattle.ball_sums.specs.Sums.{AreSums}

-- the points of a cloud at their places in space
abbrev pub places_of : {P : Type 0} → (P → SpacePoint) → Cloud P → List SpacePoint
places_of place cloud = map place (points_of cloud)

-- the supports' numbers are those of so many points, and their weights are within their limits
pub record HasBallLimits (dim count : ℕ) (supports : List Weighted) : Type 0 where
  pub some : 1 ≤ length supports
  pub numbers : All (λ s. s.point < count) supports
  pub weights : All (λ s. pos 1 ≤ℤ s.weight) supports
  pub weight_limit : weight_sum supports ≤ℤ pos (ball_limit dim)

-- the supports determine a ball of this squared radius around all points
pub record DetermineBall (dim : ℕ) (points : List SpacePoint) (supports : List Weighted) (size : Fraction) : Type 0 where
  pub limits : HasBallLimits dim (length points) supports
  pub size_in_range : IsFraction size
  pub size_is : SameValue size (supported_size points supports)
  pub on_ball : All (IsOnBall points supports) supports
  pub none_outside : All (IsNotOutside points supports) points

-- this holds in one way at most
pub DetermineBall-prop : (dim : ℕ) (points : List SpacePoint) (supports : List Weighted) (size : Fraction) → IsProp (DetermineBall dim points supports size)
DetermineBall-prop dim points supports size = hlevel (le_prop, T_prop, Coded-set coded_ℕ, Coded-set coded_ℤ)

-- the sums over all supports, as seen from the first
pub record AreSupportSums (dim : ℕ) (points : List SpacePoint) (supports : List Weighted) (s : Sums) : Type 0 where
  pub some : 1 ≤ s.weight
  pub sums : AreSums dim points supports s

-- this holds in one way at most, too
pub AreSupportSums-prop : (dim : ℕ) (points : List SpacePoint) (supports : List Weighted) (s : Sums) → IsProp (AreSupportSums dim points supports s)
AreSupportSums-prop dim points supports s = hlevel (le_prop, T_prop, Coded-set coded_ℕ, Coded-set coded_ℤ)

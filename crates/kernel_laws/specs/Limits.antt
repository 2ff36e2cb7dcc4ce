-- How large vectors and sums of weights are, by the number of dimensions.
use Rattle.std.specs.Prelude.{ℕ, ◌≡◌, ◌^◌, ◌==◌, if◌then◌else◌, pos}
use Rattle.integers.specs.Size.{Size}
use Rattle.bounds_model.specs.Space.{SpacePoint}

-- no coordinate of the vector has a magnitude above n
pub record IsVectorWithin (n : ℕ) (v : SpacePoint) : Type 0 where
  pub x : Size n v.x
  pub y : Size n v.y
  pub z : Size n v.z

-- the greatest difference of two coordinates: twice the bound of the plane's points, or of those of space
abbrev pub difference_limit : ℕ → ℕ
difference_limit dim = if dim == 2 then 400000 else 16000

-- the greatest sum of the weights of a ball
abbrev pub ball_limit : ℕ → ℕ
ball_limit dim = if dim == 2 then 2 ^ 80 else 2 ^ 92

-- a difference of two points
pub record IsDifference (dim : ℕ) (v : SpacePoint) : Type 0 where
  pub within : IsVectorWithin (difference_limit dim) v
  pub flat : dim ≡ 2 → v.z ≡ pos 0

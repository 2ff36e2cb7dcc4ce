-- Where the first square can stand, and when three others can follow it.
use Rattle.std.specs.Prelude.{◌≡◌, ◌⊎◌, ⊤, ℕ, zero, suc, ◌-◌, ◌<◌, ◌≤◌, ℤ, pos, ◌-ℤ◌, ◌≤ℤ◌, ◌<ℤ◌, List, length, All, Any, Contains, IsTrue, slice_index_or}
use Rattle.bounds_model.specs.Numbers.{IsWithin}
use Rattle.bounds_model.specs.Plane.{PlanePoint, plane_limit}
use Rattle.bounds_model.specs.CentresAnswer.{Square, contains, outside}
use Rattle.bounds_model.specs.FourAnswer.{first_square}
use Rattle.corner_squares.specs.declared.least.Least.{Least}
use Rattle.corner_squares.specs.LeastPoints.{point_of}

-- a point has this y, which is at most so high
pub record IsHeightUpTo (top : ℤ) (points : List PlanePoint) (y : ℤ) : Type 0 where
  pub to : y ≤ℤ top
  pub meets : Any (λ p. p.y ≡ y) points

-- all such heights, ascending
pub record AreHeightsUpTo (top : ℤ) (points : List PlanePoint) (heights : List ℤ) : Type 0 where
  pub each : All (IsHeightUpTo top points) heights
  pub all : (y : ℤ) → IsHeightUpTo top points y → Contains heights y
  pub ascending : (j k : ℕ) (d : ℤ) → j < k → k < length heights → slice_index_or heights j d <ℤ slice_index_or heights k d
  pub few : length heights ≤ length points
  pub plane : All (IsWithin plane_limit) heights

-- the height is more than a side below the least point
abbrev pub IsBeyond : Least → ℤ → ℕ → Type 0
IsBeyond least height side = height <ℤ (least.y -ℤ pos side)

-- three squares of the same side cover what the first square leaves over
pub record CanFollow (points : List PlanePoint) (first : Square) : Type 0 where
  pub others : List Square
  pub few : length others ≤ 3
  pub wide : All (λ s. s.side ≡ first.side) others
  pub covered : All (λ p. Any (λ s. IsTrue (contains s p)) others) (outside first points)

-- with the first square at this height, no smaller squares than those of this side cover the points
abbrev pub IsDone : List PlanePoint → Least → ℤ → ℕ → Type 0
IsDone points least height zero = ⊤
IsDone points least height (suc side) = IsBeyond least height side ⊎ (¬ CanFollow points (first_square side (point_of least) height))

-- the height is above the last one, if there is one
abbrev pub IsNotLast : List ℤ → ℤ → Type 0
IsNotLast heights height = (d : ℤ) → 0 < length heights → slice_index_or heights (length heights - 1) d <ℤ height

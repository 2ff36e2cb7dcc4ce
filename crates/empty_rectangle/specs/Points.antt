-- The points strictly inside a frame, as obstacles in its extent.
use Rattle.std.specs.Prelude.{◌≡◌, ℕ, ◌<◌, List, [], length, All, Any, Option, Some, None, pos, ◌+ℤ◌}
use Rattle.std.specs.List.Sorted.{IsNonDecreasingBy}
use Rattle.bounds_model.specs.Plane.{PlanePoint, point_at}
use Rattle.bounds_model.specs.EmptyRectangle.{Box, IsStrictlyInside}
use Rattle.bounded_coords.specs.declared.cloud.Cloud.{Cloud}
use Rattle.bounded_coords.specs.Clouds.{points_of}
use Rattle.empty_rectangle.specs.declared.obstacles.Obstacle.{Obstacle}
use Rattle.empty_rectangle.specs.declared.obstacles.Extent.{Extent}

-- the points of a cloud, if there is one
abbrev pub points_in : Option (Cloud PlanePoint) → List PlanePoint
points_in None = []
points_in (Some cloud) = points_of cloud

-- a point of the list is strictly inside the frame
abbrev pub HasPointInside : Box → List PlanePoint → Type 0
HasPointInside frame points = (i : ℕ) × (i < length points) × IsStrictlyInside frame (point_at points i)

-- the extent is as wide and as high as the frame
pub record IsExtentOf (frame : Box) (extent : Extent) : Type 0 where
  pub width : frame.right ≡ (frame.left +ℤ pos extent.width)
  pub height : frame.top ≡ (frame.bottom +ℤ pos extent.height)

-- the obstacle is where the point is
pub record IsObstacleAt (frame : Box) (p : PlanePoint) (s : Obstacle) : Type 0 where
  pub x : p.x ≡ (frame.left +ℤ pos s.x)
  pub y : p.y ≡ (frame.bottom +ℤ pos s.y)

-- the obstacle is where the point of its number is, which is strictly inside the frame
pub record IsObstacleOf (frame : Box) (points : List PlanePoint) (s : Obstacle) : Type 0 where
  pub below : s.number < length points
  pub at : IsObstacleAt frame (point_at points s.number) s
  pub inside : IsStrictlyInside frame (point_at points s.number)

-- the obstacles are points of the list, and where each of some points is that is strictly inside the frame, there is an obstacle
pub record AreObstacles (frame : Box) (points some : List PlanePoint) (obstacles : List Obstacle) : Type 0 where
  pub each : All (IsObstacleOf frame points) obstacles
  pub every : All (λ p. IsStrictlyInside frame p → Any (IsObstacleAt frame p) obstacles) some

-- the obstacles are the points strictly inside the frame, from the lowest up
pub record ListsObstacles (frame : Box) (points : List PlanePoint) (obstacles : List Obstacle) : Type 0 where
  pub are : AreObstacles frame points points obstacles
  pub sorted : IsNonDecreasingBy (λ s. s.y) obstacles

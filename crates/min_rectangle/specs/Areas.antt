-- Areas of the rectangles in the directions of a fan.
use Rattle.std.specs.Prelude.{◌≡◌, ◌*◌, ◌^◌, ◌<◌, ◌≤◌, pos, List, length}
use Rattle.bounds_model.specs.Plane.{PlanePoint, squared_length}
use Rattle.bounds_model.specs.Fans.{QuarterFan}
use Rattle.bounds_model.specs.RectangleAnswer.{reached_area}
use Rattle.min_rectangle.specs.PlainFan.{cone_at}
use Rattle.min_rectangle.specs.declared.smallest.Area.{Area}

-- the product of the reaches along a direction of the fan and across it, and the direction's squared length
pub record IsArea (points : List PlanePoint) (fan : QuarterFan) (a : Area) : Type 0 where
  pub listed : a.direction < length fan.cones
  pub is_product : pos a.product ≡ reached_area points (cone_at fan a.direction).direction (cone_at fan a.direction)
  pub is_length : pos a.length ≡ squared_length (cone_at fan a.direction).direction
  pub some : 0 < a.length
  pub product_limit : a.product ≤ 2 ^ 77
  pub length_limit : a.length ≤ 320000000000

-- the area of the one is below that of the other
abbrev pub IsSmaller : Area → Area → Type 0
IsSmaller a b = a.product * b.length < b.product * a.length

-- the area of the one is not above that of the other
abbrev pub IsNotLarger : Area → Area → Type 0
IsNotLarger a b = a.product * b.length ≤ b.product * a.length

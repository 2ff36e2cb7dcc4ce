-- The answers on rectangles, and what a checker asks of them.
use Rattle.std.specs.Prelude.{◌≢◌, ℤ, pos, ◌*ℤ◌, ◌≤ℤ◌, ◌<ℤ◌, List, All}
use Rattle.bounds_model.specs.Plane.{PlanePoint, origin, squared_length, quarter_turn}
use Rattle.bounds_model.specs.Fractions.{Fraction, SameValue}
use Rattle.bounds_model.specs.Strip.{Span, AreTight}
use Rattle.bounds_model.specs.Rectangle.{Rectangle, rectangle_size}
use Rattle.bounds_model.specs.Ranges.{IsFraction, IsDirection, IsSpan}
use Rattle.bounds_model.specs.Fans.{QuarterFan, QuarterCone, quarter_directions, HoldsQuarter, QuarterRanges, AtBothEnds, IsFirst, reach, IsShort}
use Rattle.bounds_model.specs.StripAnswer.{IsShortSpan}

-- a rectangle, and a fan over a quarter turn
pub record RectangleAnswer : Type 0 where
  pub size : Fraction
  pub direction : PlanePoint
  pub along : Span
  pub across : Span
  pub fan : QuarterFan

-- the rectangle in this direction with these bounds
abbrev pub rectangle_of : RectangleAnswer → Rectangle
rectangle_of a = record { direction = a.direction; along = a.along; across = a.across; w = pos 1 }

-- all numbers are in their ranges
pub record RectangleRanges (a : RectangleAnswer) : Type 0 where
  pub size : IsFraction a.size
  pub direction : IsDirection a.direction
  pub along : IsSpan a.along
  pub across : IsSpan a.across
  pub fan : QuarterRanges a.fan

-- the area of the rectangle around the points in this direction, times the direction's squared length
abbrev pub reached_area : List PlanePoint → PlanePoint → QuarterCone → ℤ
reached_area points d cone = reach points d cone.high cone.low *ℤ reach points (quarter_turn d) cone.over cone.under

-- that rectangle is not smaller than the size
abbrev pub IsNotSmaller : List PlanePoint → Fraction → PlanePoint → QuarterCone → Type 0
IsNotSmaller points size d cone = (size.n *ℤ squared_length d) ≤ℤ (reached_area points d cone *ℤ size.d)

-- that rectangle is larger than the size
abbrev pub IsLarger : List PlanePoint → Fraction → PlanePoint → QuarterCone → Type 0
IsLarger points size d cone = (size.n *ℤ squared_length d) <ℤ (reached_area points d cone *ℤ size.d)

-- what a checker asks of a rectangle
pub record PassesRectangle (points : List PlanePoint) (a : RectangleAnswer) : Type 0 where
  pub ranges : RectangleRanges a
  pub short_directions : All IsShort (quarter_directions a.fan)
  pub short_direction : IsShort a.direction
  pub short_along : IsShortSpan a.along
  pub short_across : IsShortSpan a.across
  pub normal : a.direction ≢ origin
  pub fan : HoldsQuarter points a.fan
  pub not_smaller : AtBothEnds (quarter_directions a.fan) (IsNotSmaller points a.size) a.fan.cones
  pub first : IsFirst (quarter_directions a.fan) (IsLarger points a.size) a.fan.cones a.direction
  pub tight_along : AreTight points a.direction a.along
  pub tight_across : AreTight points (quarter_turn a.direction) a.across
  pub size : SameValue a.size (rectangle_size (rectangle_of a))

-- What is asked of a rectangle, put together.
use Rattle.std.proofs.Common.{◌≤◌, length}
use Rattle.std.specs.Prelude.{List}
use Rattle.bounds_model.specs.Plane.{PlanePoint, quarter_turn}
use Rattle.bounds_model.specs.Fractions.{SameValue}
use Rattle.bounds_model.specs.Ranges.{IsFraction}
use Rattle.bounds_model.specs.Strip.{AreTight}
use Rattle.bounds_model.specs.Rectangle.{rectangle_size}
use Rattle.bounds_model.specs.Fans.{HoldsQuarter, quarter_directions, AtBothEnds, IsFirst}
use Rattle.bounds_model.specs.StripAnswer.{IsShortSpan}
use Rattle.bounds_model.specs.RectangleAnswer.{RectangleAnswer, rectangle_of, IsNotSmaller, IsLarger, PassesRectangle}
use Rattle.fan_checks.specs.Limits.{HasQuarterLimits, HasNormalLimits}
use Rattle.directions.proofs.SpanBounds.{short_span}
use Rattle.fan_checks.proofs.FanRanges.{quarter_ranges}
use Rattle.bounded_coords.proofs.Ranges.{direction_of_short}

pub rectangle_passes : (points : List PlanePoint) (a : RectangleAnswer) → length points ≤ 10000 → IsFraction a.size → HasQuarterLimits points a.fan → HasNormalLimits a.direction a.along → IsShortSpan a.across
    → SameValue a.size (rectangle_size (rectangle_of a)) → HoldsQuarter points a.fan → AtBothEnds (quarter_directions a.fan) (IsNotSmaller points a.size) a.fan.cones
    → IsFirst (quarter_directions a.fan) (IsLarger points a.size) a.fan.cones a.direction → AreTight points a.direction a.along → AreTight points (quarter_turn a.direction) a.across → PassesRectangle points a
rectangle_passes points a few lowest fan normal across size holds not_smaller first tight_along tight_across = record {
  ranges = record { size = lowest; direction = direction_of_short a.direction normal.short; along = short_span a.along normal.bounds; across = short_span a.across across; fan = quarter_ranges points a.fan few fan };
  short_directions = fan.short;
  short_direction = normal.short;
  short_along = normal.bounds;
  short_across = across;
  normal = normal.some;
  fan = holds;
  not_smaller = not_smaller;
  first = first;
  tight_along = tight_along;
  tight_across = tight_across;
  size = size;
}

-- What is asked of a strip, put together.
use Rattle.std.proofs.Common.{◌≤◌, length}
use Rattle.std.specs.Prelude.{List}
use Rattle.bounds_model.specs.Plane.{PlanePoint}
use Rattle.bounds_model.specs.Fractions.{SameValue}
use Rattle.bounds_model.specs.Ranges.{IsFraction}
use Rattle.bounds_model.specs.Strip.{AreTight, strip_size}
use Rattle.bounds_model.specs.Fans.{HoldsHalf, half_directions, AtBothEnds, IsFirst}
use Rattle.bounds_model.specs.StripAnswer.{StripAnswer, strip_of, IsNotThinner, IsThicker, PassesStrip}
use Rattle.fan_checks.specs.Limits.{HasHalfLimits, HasNormalLimits}
use Rattle.directions.proofs.SpanBounds.{short_span}
use Rattle.fan_checks.proofs.FanRanges.{half_ranges}
use Rattle.bounded_coords.proofs.Ranges.{direction_of_short}

pub strip_passes : (points : List PlanePoint) (a : StripAnswer) → length points ≤ 10000 → IsFraction a.size → HasHalfLimits points a.fan → HasNormalLimits a.direction a.bounds
    → SameValue a.size (strip_size (strip_of a)) → HoldsHalf points a.fan → AtBothEnds (half_directions a.fan) (IsNotThinner points a.size) a.fan.cones
    → IsFirst (half_directions a.fan) (IsThicker points a.size) a.fan.cones a.direction → AreTight points a.direction a.bounds → PassesStrip points a
strip_passes points a few lowest fan normal size holds not_thinner first tight = record {
  ranges = record { size = lowest; direction = direction_of_short a.direction normal.short; bounds = short_span a.bounds normal.bounds; fan = half_ranges points a.fan few fan };
  short_directions = fan.short;
  short_direction = normal.short;
  short_bounds = normal.bounds;
  normal = normal.some;
  fan = holds;
  not_thinner = not_thinner;
  first = first;
  tight = tight;
  size = size;
}

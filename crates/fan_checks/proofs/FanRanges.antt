-- Numbers within the checker's limits are within the ranges of an answer's numbers.
use Rattle.std.proofs.Common.{◌≤◌, ◌<◌, arith, length}
use Rattle.std.proofs.lemmas.List.Elements.{All-weaker}
use Rattle.std.specs.Prelude.{List}
use Rattle.bounds_model.specs.Plane.{PlanePoint}
use Rattle.bounds_model.specs.Ranges.{IsDirection, point_limit}
use Rattle.bounds_model.specs.Fans.{HalfFan, QuarterFan, HalfRanges, QuarterRanges, IsShort, half_directions, quarter_directions}
use Rattle.fan_checks.specs.Limits.{HasHalfLimits, HasQuarterLimits}
use Rattle.bounded_coords.proofs.Ranges.{direction_of_short}

-- a fan over half a turn
pub half_ranges : (points : List PlanePoint) (fan : HalfFan) → length points ≤ 10000 → HasHalfLimits points fan → HalfRanges fan
half_ranges points fan few h = record {
  count = h.count;
  directions = All-weaker IsShort IsDirection direction_of_short (half_directions fan) h.short;
  points = All-weaker (λ cone. (cone.high < length points) × (cone.low < length points)) (λ cone. (cone.high ≤ point_limit) × (cone.low ≤ point_limit)) (λ cone names. (omega (arith, few, names.0), omega (arith, few, names.1))) fan.cones h.numbers;
}

-- a fan over a quarter turn
pub quarter_ranges : (points : List PlanePoint) (fan : QuarterFan) → length points ≤ 10000 → HasQuarterLimits points fan → QuarterRanges fan
quarter_ranges points fan few h = record {
  count = h.count;
  directions = All-weaker IsShort IsDirection direction_of_short (quarter_directions fan) h.short;
  points = All-weaker (λ cone. (cone.high < length points) × (cone.low < length points) × (cone.over < length points) × (cone.under < length points))
      (λ cone. (cone.high ≤ point_limit) × (cone.low ≤ point_limit) × (cone.over ≤ point_limit) × (cone.under ≤ point_limit))
      (λ cone names. (omega (arith, few, names.0), omega (arith, few, names.1), omega (arith, few, names.2), omega (arith, few, names.3))) fan.cones h.numbers;
}

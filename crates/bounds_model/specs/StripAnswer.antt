-- The answers on strips, and what a checker asks of them.
use Rattle.std.specs.Prelude.{◌≢◌, pos, ◌*ℤ◌, ◌≤ℤ◌, ◌<ℤ◌, List, All}
use Rattle.bounds_model.specs.Numbers.{IsWithin}
use Rattle.bounds_model.specs.Plane.{PlanePoint, origin, squared_length}
use Rattle.bounds_model.specs.Fractions.{Fraction, SameValue}
use Rattle.bounds_model.specs.Strip.{Span, Strip, AreTight, strip_size}
use Rattle.bounds_model.specs.Ranges.{IsFraction, IsDirection, IsSpan}
use Rattle.bounds_model.specs.Fans.{HalfFan, HalfCone, half_directions, HoldsHalf, HalfRanges, AtBothEnds, IsFirst, reach, IsShort, span_limit}

-- a strip, and a fan over half a turn
pub record StripAnswer : Type 0 where
  pub size : Fraction
  pub direction : PlanePoint
  pub bounds : Span
  pub fan : HalfFan

-- the strip with this direction as its normal
abbrev pub strip_of : StripAnswer → Strip
strip_of a = record { normal = a.direction; bounds = a.bounds; w = pos 1 }

-- all numbers are in their ranges
pub record StripRanges (a : StripAnswer) : Type 0 where
  pub size : IsFraction a.size
  pub direction : IsDirection a.direction
  pub bounds : IsSpan a.bounds
  pub fan : HalfRanges a.fan

-- bounds within the checker's limit
pub record IsShortSpan (span : Span) : Type 0 where
  pub low : IsWithin span_limit span.low
  pub high : IsWithin span_limit span.high

-- the square of the width of the strip around the points with this normal is at least the size
abbrev pub IsNotThinner : List PlanePoint → Fraction → PlanePoint → HalfCone → Type 0
IsNotThinner points size d cone =
    (size.n *ℤ squared_length d) ≤ℤ (reach points d cone.high cone.low *ℤ reach points d cone.high cone.low *ℤ size.d)

-- that square is above the size
abbrev pub IsThicker : List PlanePoint → Fraction → PlanePoint → HalfCone → Type 0
IsThicker points size d cone =
    (size.n *ℤ squared_length d) <ℤ (reach points d cone.high cone.low *ℤ reach points d cone.high cone.low *ℤ size.d)

-- what a checker asks of a strip
pub record PassesStrip (points : List PlanePoint) (a : StripAnswer) : Type 0 where
  pub ranges : StripRanges a
  pub short_directions : All IsShort (half_directions a.fan)
  pub short_direction : IsShort a.direction
  pub short_bounds : IsShortSpan a.bounds
  pub normal : a.direction ≢ origin
  pub fan : HoldsHalf points a.fan
  pub not_thinner : AtBothEnds (half_directions a.fan) (IsNotThinner points a.size) a.fan.cones
  pub first : IsFirst (half_directions a.fan) (IsThicker points a.size) a.fan.cones a.direction
  pub tight : AreTight points a.direction a.bounds
  pub size : SameValue a.size (strip_size (strip_of a))

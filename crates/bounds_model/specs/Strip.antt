-- Strips between two parallel lines.
use Rattle.std.specs.Prelude.{◌≡◌, ◌≢◌, ℤ, pos, ◌-ℤ◌, ◌*ℤ◌, ◌≤ℤ◌, List, All, Any}
use Rattle.bounds_model.specs.Plane.{PlanePoint, origin, dot, squared_length}
use Rattle.bounds_model.specs.Fractions.{Fraction}

-- a lower and an upper bound
pub record Span : Type 0 where
  pub low : ℤ
  pub high : ℤ

-- the upper bound less the lower one
abbrev pub extent : Span → ℤ
extent span = span.high -ℤ span.low

-- the number is between the bounds
pub record IsInSpan (span : Span) (z : ℤ) : Type 0 where
  pub above : span.low ≤ℤ z
  pub below : z ≤ℤ span.high

-- the bounds are the least and the greatest product of the vector with a point
pub record AreTight (points : List PlanePoint) (u : PlanePoint) (bounds : Span) : Type 0 where
  pub inside : All (λ p. IsInSpan bounds (dot u p)) points
  pub low : Any (λ p. dot u p ≡ bounds.low) points
  pub high : Any (λ p. dot u p ≡ bounds.high) points

-- a normal, and bounds over w for the products of the normal with points
pub record Strip : Type 0 where
  pub normal : PlanePoint
  pub bounds : Span
  pub w : ℤ

-- all points are in the strip
pub record FitsStrip (points : List PlanePoint) (strip : Strip) : Type 0 where
  pub normal : strip.normal ≢ origin
  pub bounds : strip.bounds.low ≤ℤ strip.bounds.high
  pub denominator : pos 1 ≤ℤ strip.w
  pub inside : All (λ p. IsInSpan strip.bounds (strip.w *ℤ dot strip.normal p)) points

-- the width times itself
abbrev pub strip_size : Strip → Fraction
strip_size strip = record {
  n = extent strip.bounds *ℤ extent strip.bounds;
  d = strip.w *ℤ strip.w *ℤ squared_length strip.normal;
}

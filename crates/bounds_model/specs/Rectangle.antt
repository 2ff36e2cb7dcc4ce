-- Rectangles in any direction.
use Rattle.std.specs.Prelude.{◌≢◌, ℤ, pos, ◌*ℤ◌, ◌≤ℤ◌, List, All}
use Rattle.bounds_model.specs.Plane.{PlanePoint, origin, dot, squared_length, quarter_turn}
use Rattle.bounds_model.specs.Fractions.{Fraction}
use Rattle.bounds_model.specs.Strip.{Span, extent, IsInSpan}

-- a direction, and bounds over w for the products with it and with it turned by a right angle
pub record Rectangle : Type 0 where
  pub direction : PlanePoint
  pub along : Span
  pub across : Span
  pub w : ℤ

-- all points are in the rectangle
pub record FitsRectangle (points : List PlanePoint) (rectangle : Rectangle) : Type 0 where
  pub direction : rectangle.direction ≢ origin
  pub along : rectangle.along.low ≤ℤ rectangle.along.high
  pub across : rectangle.across.low ≤ℤ rectangle.across.high
  pub denominator : pos 1 ≤ℤ rectangle.w
  pub inside_along : All (λ p. IsInSpan rectangle.along (rectangle.w *ℤ dot rectangle.direction p)) points
  pub inside_across : All (λ p. IsInSpan rectangle.across (rectangle.w *ℤ dot (quarter_turn rectangle.direction) p)) points

-- the area
abbrev pub rectangle_size : Rectangle → Fraction
rectangle_size rectangle = record {
  n = extent rectangle.along *ℤ extent rectangle.across;
  d = rectangle.w *ℤ rectangle.w *ℤ squared_length rectangle.direction;
}

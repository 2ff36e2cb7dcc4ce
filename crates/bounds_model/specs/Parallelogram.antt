-- Parallelograms.
use Rattle.std.specs.Prelude.{◌≢◌, ℤ, pos, nat_abs, ◌*ℤ◌, ◌≤ℤ◌, List, All}
use Rattle.bounds_model.specs.Plane.{PlanePoint, dot, cross}
use Rattle.bounds_model.specs.Fractions.{Fraction}
use Rattle.bounds_model.specs.Strip.{Span, extent, IsInSpan}

-- two normals, and bounds over w for the products of each with points
pub record Parallelogram : Type 0 where
  pub first : PlanePoint
  pub first_bounds : Span
  pub second : PlanePoint
  pub second_bounds : Span
  pub w : ℤ

-- all points are in the parallelogram
pub record FitsParallelogram (points : List PlanePoint) (parallelogram : Parallelogram) : Type 0 where
  pub normals : cross parallelogram.first parallelogram.second ≢ pos 0
  pub first_bounds : parallelogram.first_bounds.low ≤ℤ parallelogram.first_bounds.high
  pub second_bounds : parallelogram.second_bounds.low ≤ℤ parallelogram.second_bounds.high
  pub denominator : pos 1 ≤ℤ parallelogram.w
  pub inside_first : All (λ p. IsInSpan parallelogram.first_bounds (parallelogram.w *ℤ dot parallelogram.first p)) points
  pub inside_second : All (λ p. IsInSpan parallelogram.second_bounds (parallelogram.w *ℤ dot parallelogram.second p)) points

-- the area
abbrev pub parallelogram_size : Parallelogram → Fraction
parallelogram_size parallelogram = record {
  n = extent parallelogram.first_bounds *ℤ extent parallelogram.second_bounds;
  d = parallelogram.w *ℤ parallelogram.w *ℤ pos (nat_abs (cross parallelogram.first parallelogram.second));
}

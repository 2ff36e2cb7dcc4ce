-- Bounds that two points give, and numbers within a checker's limits, which are within the ranges of an answer's numbers.
use Rattle.std.proofs.Common.{◌≡◌, sym, ◌∙◌, ap, subst, ℕ, ◌<◌, ℤ, ◌-ℤ◌, List, length, All, leb→le}
use Rattle.std.specs.Prelude.{slice_index_or}
use Rattle.std.proofs.lemmas.List.{get_or_default}
use Rattle.bounds_model.specs.Plane.{PlanePoint, origin, point_at, dot}
use Rattle.bounds_model.specs.Strip.{Span, IsInSpan, AreTight, extent}
use Rattle.bounds_model.specs.Ranges.{IsSpan}
use Rattle.bounds_model.specs.Fans.{AreExtreme, reach}
use Rattle.bounds_model.specs.StripAnswer.{IsShortSpan}
use Rattle.directions.proofs.Reading.{reach_parts}
use Rattle.bounded_coords.proofs.Ranges.{within_more}

-- short bounds
pub short_span : (span : Span) → IsShortSpan span → IsSpan span
short_span span h = record { low = within_more h.low tt; high = within_more h.high tt }

-- bounds that two points give
pub record AreBounds (points : List PlanePoint) (d : PlanePoint) (high low : ℕ) (span : Span) : Type 0 where
  pub is : span ≡ record { low = dot d (point_at points low); high = dot d (point_at points high) }
  pub short : IsShortSpan span

-- all points are between the bounds that extreme points give
pub bounds_hold : (points : List PlanePoint) (d : PlanePoint) (high low : ℕ) (span : Span) → AreExtreme points d high low → AreBounds points d high low span → All (λ p. IsInSpan span (dot d p)) points
bounds_hold points d high low span h b = λ i e l. subst (λ (s : Span). IsInSpan s (dot d (slice_index_or points i e))) (sym b.is) (record { above = h.lowest i e l; below = h.highest i e l })

-- and two of them lie on the bounds
pub bounds_tight : (points : List PlanePoint) (d : PlanePoint) (high low : ℕ) (span : Span) → high < length points → low < length points → AreExtreme points d high low → AreBounds points d high low span → AreTight points d span
bounds_tight points d high low span named_high named_low h b = record {
  inside = bounds_hold points d high low span h b;
  low = (low, point_at points low, named_low, get_or_default points low (point_at points low) origin named_low, sym (ap (λ (s : Span). s.low) b.is));
  high = (high, point_at points high, named_high, get_or_default points high (point_at points high) origin named_high, sym (ap (λ (s : Span). s.high) b.is));
}

-- the bounds are as far apart as the points reach
pub extent_is : (points : List PlanePoint) (d : PlanePoint) (high low : ℕ) (span : Span) → AreBounds points d high low span → extent span ≡ reach points d high low
extent_is points d high low span b = ap (λ (x : Span). x.high -ℤ x.low) b.is ∙ sym (reach_parts points d high low)

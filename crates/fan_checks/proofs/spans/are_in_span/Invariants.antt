use Rattle.std.proofs.Common.{ℕ, ◌<◌}
use Rattle.std.specs.Prelude.{slice_index_or}
use Rattle.bounds_model.specs.Plane.{PlanePoint, dot}
use Rattle.bounds_model.specs.Strip.{IsInSpan}
use Rattle.bounded_coords.specs.Clouds.{points_of}
use Rattle.answers.specs.Answers.{vector_of, span_of}
use Rattle.fan_checks.proofs.spans.are_in_span.Given as goal

abbrev pub invariant-loop-i : goal.invariant-loop-i
invariant-loop-i l = (k : ℕ) (d : PlanePoint) → k < l.i → IsInSpan (span_of l.span) (dot (vector_of l.normal) (slice_index_or (points_of l.cloud) k d))

use Rattle.std.proofs.Common.{◌≡◌, ℕ, ◌<◌}
use Rattle.std.specs.Prelude.{slice_index_or}
use Rattle.bounds_model.specs.Plane.{PlanePoint, dot}
use Rattle.bounded_coords.specs.Clouds.{points_of}
use Rattle.answers.specs.Answers.{vector_of}
use Rattle.fan_checks.proofs.spans.is_reached.Given as goal

abbrev pub invariant-points : goal.invariant-points
invariant-points l = (k : ℕ) (d : PlanePoint) → k < l.i → dot (vector_of l.normal) (slice_index_or (points_of l.cloud) k d) ≡ l.bound → ⊥

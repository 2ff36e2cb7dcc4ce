use Rattle.std.proofs.Common.{ℕ, ◌<◌}
use Rattle.std.specs.Prelude.{slice_index_or, Any}
use Rattle.bounds_model.specs.Plane.{PlanePoint}
use Rattle.bounds_model.specs.Centres.{IsNear}
use Rattle.bounded_coords.specs.Clouds.{points_of}
use Rattle.centres_check.proofs.cover.cover.Given as goal

abbrev pub invariant-loop-i : goal.invariant-loop-i
invariant-loop-i l = (k : ℕ) (d : PlanePoint) → k < l.i → Any (IsNear l.radius (slice_index_or (points_of l.cloud) k d)) l.squares

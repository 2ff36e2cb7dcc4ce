use Rattle.std.proofs.Common.{ℕ, ◌<◌}
use Rattle.std.specs.Prelude.{slice_index_or}
use Rattle.bounds_model.specs.Plane.{point_at}
use Rattle.bounds_model.specs.Fans.{QuarterCone, quarter_directions, IsReduced}
use Rattle.bounds_model.specs.RectangleAnswer.{IsLarger}
use Rattle.bounded_coords.specs.Clouds.{points_of}
use Rattle.answers.specs.Answers.{quarter_fan_of, vector_of}
use Rattle.fan_checks.proofs.rectangles.is_first.Given as goal

-- each direction so far has a larger rectangle, and none is the direction's
abbrev pub invariant-cones : goal.invariant-cones
invariant-cones l =
    let fan = quarter_fan_of l.fan in
    record {
      before : (k : ℕ) (d : QuarterCone) → k < l.i → IsLarger (points_of l.cloud) l.size (point_at (quarter_directions fan) k) (slice_index_or fan.cones k d);
      none : (k : ℕ) → k < l.i → IsReduced (point_at (quarter_directions fan) k) (vector_of l.direction) → ⊥;
    }

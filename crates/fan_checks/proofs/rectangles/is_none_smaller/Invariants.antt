use Rattle.std.proofs.Common.{ℕ, ◌<◌}
use Rattle.std.specs.Prelude.{slice_index_or}
use Rattle.bounds_model.specs.Plane.{point_at}
use Rattle.bounds_model.specs.Fans.{QuarterCone, quarter_directions}
use Rattle.bounds_model.specs.RectangleAnswer.{IsNotSmaller}
use Rattle.bounded_coords.specs.Clouds.{points_of}
use Rattle.answers.specs.Answers.{quarter_fan_of}
use Rattle.fan_checks.proofs.rectangles.is_none_smaller.Given as goal

-- where the cones so far begin no rectangle is smaller
abbrev pub invariant-loop-i : goal.invariant-loop-i
invariant-loop-i l =
    let fan = quarter_fan_of l.fan in
    (k : ℕ) (d : QuarterCone) → k < l.i → IsNotSmaller (points_of l.cloud) l.size (point_at (quarter_directions fan) k) (slice_index_or fan.cones k d)

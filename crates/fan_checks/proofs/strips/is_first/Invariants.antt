use Rattle.std.proofs.Common.{ℕ, ◌<◌}
use Rattle.std.specs.Prelude.{slice_index_or}
use Rattle.bounds_model.specs.Plane.{point_at}
use Rattle.bounds_model.specs.Fans.{HalfCone, half_directions, IsReduced}
use Rattle.bounds_model.specs.StripAnswer.{IsThicker}
use Rattle.bounded_coords.specs.Clouds.{points_of}
use Rattle.answers.specs.Answers.{half_fan_of, vector_of}
use Rattle.fan_checks.proofs.strips.is_first.Given as goal

-- each direction so far has a wider strip, and none is the normal's
abbrev pub invariant-cones : goal.invariant-cones
invariant-cones l =
    let fan = half_fan_of l.fan in
    record {
      before : (k : ℕ) (d : HalfCone) → k < l.i → IsThicker (points_of l.cloud) l.size (point_at (half_directions fan) k) (slice_index_or fan.cones k d);
      none : (k : ℕ) → k < l.i → IsReduced (point_at (half_directions fan) k) (vector_of l.normal) → ⊥;
    }

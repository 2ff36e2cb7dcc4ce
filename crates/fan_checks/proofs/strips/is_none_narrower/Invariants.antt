use Rattle.std.proofs.Common.{ℕ, ◌<◌}
use Rattle.std.specs.Prelude.{slice_index_or}
use Rattle.bounds_model.specs.Plane.{point_at}
use Rattle.bounds_model.specs.Fans.{HalfCone, half_directions}
use Rattle.bounds_model.specs.StripAnswer.{IsNotThinner}
use Rattle.bounded_coords.specs.Clouds.{points_of}
use Rattle.answers.specs.Answers.{half_fan_of}
use Rattle.fan_checks.proofs.strips.is_none_narrower.Given as goal

-- where the cones so far begin no strip is narrower
abbrev pub invariant-loop-i : goal.invariant-loop-i
invariant-loop-i l =
    let fan = half_fan_of l.fan in
    (k : ℕ) (d : HalfCone) → k < l.i → IsNotThinner (points_of l.cloud) l.size (point_at (half_directions fan) k) (slice_index_or fan.cones k d)

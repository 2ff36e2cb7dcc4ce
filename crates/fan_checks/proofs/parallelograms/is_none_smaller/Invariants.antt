use Rattle.std.proofs.Common.{ℕ, ◌<◌}
use Rattle.std.specs.Prelude.{slice_index_or}
use Rattle.bounds_model.specs.Fans.{HalfCone}
use Rattle.bounds_model.specs.ParallelogramAnswer.{IsNotSmallerAt}
use Rattle.bounded_coords.specs.Clouds.{points_of}
use Rattle.answers.specs.Answers.{parallelogram_of}
use Rattle.fan_checks.proofs.parallelograms.is_none_smaller.Given as goal

-- where the cones so far begin no parallelogram is smaller
abbrev pub invariant-loop-i : goal.invariant-loop-i
invariant-loop-i l =
    let p = parallelogram_of l.a in
    (k : ℕ) (d : HalfCone) → k < l.i → IsNotSmallerAt (points_of l.cloud) p k (slice_index_or p.fan.cones k d)

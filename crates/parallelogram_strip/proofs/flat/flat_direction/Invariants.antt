use Rattle.std.proofs.Common.{ℕ, ◌<◌, pos, ◌<ℤ◌}
use Rattle.bounded_coords.specs.Clouds.{points_of}
use Rattle.answers.specs.Answers.{half_fan_of}
use Rattle.parallelogram_strip.specs.FullTurn.{cone_at}
use Rattle.parallelogram_strip.specs.Crossings.{reach_of}
use Rattle.parallelogram_strip.proofs.flat.flat_direction.Given as goal

abbrev pub invariant-loop-j : goal.invariant-loop-j
invariant-loop-j l = (k : ℕ) → k < l.j → pos 0 <ℤ reach_of (points_of l.cloud) (cone_at (half_fan_of l.fan) k).direction (cone_at (half_fan_of l.fan) k)

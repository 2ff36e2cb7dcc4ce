use Rattle.std.proofs.Common.{pos, ◌≤ℤ◌}
use Rattle.bounded_coords.specs.Clouds.{points_of}
use Rattle.answers.specs.Answers.{half_fan_of}
use Rattle.parallelogram_strip.specs.FullTurn.{cone_at}
use Rattle.parallelogram_strip.specs.Crossings.{reach_of}
use Rattle.parallelogram_strip.proofs.crossing.near.Given as goal

abbrev pub invariant-loop-i : goal.invariant-loop-i
invariant-loop-i l = pos 0 ≤ℤ reach_of (points_of l.cloud) (cone_at (half_fan_of l.fan) l.j).direction (cone_at (half_fan_of l.fan) l.i)

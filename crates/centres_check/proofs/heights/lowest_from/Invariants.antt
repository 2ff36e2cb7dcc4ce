use Rattle.bounded_coords.specs.Clouds.{points_of}
use Rattle.centres_check.specs.Heights.{IsLowestUpTo}
use Rattle.centres_check.proofs.heights.lowest_from.Given as goal

abbrev pub invariant-points : goal.invariant-points
invariant-points l = IsLowestUpTo (points_of l.cloud) l.i l.fn.from l.fn.to l.lowest

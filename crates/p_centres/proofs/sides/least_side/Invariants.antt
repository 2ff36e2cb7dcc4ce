use Rattle.std.proofs.Common.{◌-◌, length}
use Rattle.bounded_coords.specs.Clouds.{counted_points}
use Rattle.p_centres.specs.Sides.{IsBracket}
use Rattle.p_centres.proofs.Halving.{HasTries}
use Rattle.p_centres.proofs.sides.least_side.Given as goal

abbrev pub invariant-halving : goal.invariant-halving
invariant-halving g l = record {
  bracket : IsBracket (counted_points l.cloud) l.p l.bracket;
  tries : HasTries (length (counted_points l.cloud)) l.fn.steps l.steps l.bracket.low l.bracket.high;
}

abbrev pub decreases-halving : goal.decreases-halving
decreases-halving g l = l.bracket.high - l.bracket.low

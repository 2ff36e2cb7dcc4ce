use Rattle.std.proofs.Common.{◌≤◌, ◌-◌, length}
use Rattle.bounded_coords.specs.Clouds.{counted_points}
use Rattle.four_centres.specs.Windows.{reads}
use Rattle.four_centres.specs.Heights.{IsDone}
use Rattle.four_centres.specs.Search.{IsBestSoFar}
use Rattle.four_centres.proofs.Halving.{HasTries}
use Rattle.four_centres.proofs.search.halve.Given as goal

abbrev pub invariant-halving : goal.invariant-halving
invariant-halving g l = record {
  best : IsBestSoFar (counted_points l.cloud) l.best;
  less : l.best.side ≤ l.fn.best.side;
  order : l.low ≤ l.best.side;
  refuted : IsDone (counted_points l.cloud) l.least l.height l.low;
  tries : HasTries (reads (length (counted_points l.cloud)) 2) l.fn.steps l.steps l.low l.best.side;
}

abbrev pub decreases-halving : goal.decreases-halving
decreases-halving g l = l.best.side - l.low

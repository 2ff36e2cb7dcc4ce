use Rattle.std.proofs.Common.{◌≤◌, ◌+◌, ◌*◌, ◌/◌, length, map}
use Rattle.bounded_coords.specs.Clouds.{counted_points}
use Rattle.answers.specs.Answers.{leaf_of}
use Rattle.four_centres.specs.Windows.{reads}
use Rattle.four_centres.specs.Search.{IsBestSoFar, AreDone, AreKept}
use Rattle.four_centres.proofs.search.search.Given as goal

abbrev pub invariant-sample : goal.invariant-sample
invariant-sample g l = record {
  best : IsBestSoFar (counted_points l.cloud) l.best;
  steps : l.steps ≤ l.fn.steps + l.i * (20 * reads (length (counted_points l.cloud)) 2);
}

abbrev pub invariant-heights : goal.invariant-heights
invariant-heights g l = record {
  best : IsBestSoFar (counted_points l.cloud) l.best;
  done : AreDone (counted_points l.cloud) l.least l.heights l.i l.best.side;
  kept : AreKept l.best.side (counted_points l.cloud) l.least l.heights l.kept.since l.i (map leaf_of l.kept.leaves);
  steps : l.steps ≤ l.fn.steps + (length l.heights / 16 + l.i) * (20 * reads (length (counted_points l.cloud)) 2);
}

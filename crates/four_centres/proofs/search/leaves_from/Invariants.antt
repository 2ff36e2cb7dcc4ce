use Rattle.std.proofs.Common.{◌≤◌, ◌+◌, ◌-◌, ◌*◌, length, map}
use Rattle.bounded_coords.specs.Clouds.{counted_points}
use Rattle.answers.specs.Answers.{leaf_of}
use Rattle.four_centres.specs.Windows.{reads}
use Rattle.four_centres.specs.Search.{AreLeavesFrom}
use Rattle.four_centres.proofs.search.leaves_from.Given as goal

abbrev pub invariant-heights : goal.invariant-heights
invariant-heights g l = record {
  leaves : AreLeavesFrom l.fn.side (counted_points l.cloud) l.fn.least l.heights l.fn.from (l.i - l.fn.from) (map leaf_of l.leaves);
  steps : l.steps ≤ l.fn.steps + (l.i - l.fn.from) * reads (length (counted_points l.cloud)) 2;
}

use Rattle.std.proofs.Common.{◌≡◌, ◌+◌, ◌-◌, ◌*◌, ◌≤◌, length}
use Rattle.bounded_coords.specs.Clouds.{counted_points}
use Rattle.corner_squares.specs.Squares.{left_over}
use Rattle.four_centres.specs.Windows.{reads}
use Rattle.corner_squares.proofs.Placing.{BelowFirst}
use Rattle.four_centres.proofs.tree.+cover.Given as goal

abbrev pub decreases-cover : goal.decreases-cover
decreases-cover g l = l.depth

abbrev pub invariant-loop-corner : goal.invariant-loop-corner
invariant-loop-corner g l = record {
  stays : l.placed.items ≡ l.fn.placed.items;
  below : BelowFirst l.side (l.depth - 1) l.corner (counted_points l.cloud) (left_over l.fn.placed.items (counted_points l.cloud)) l.fn.leaves.items l.leaves.items;
  steps : l.steps ≤ l.fn.steps + 2 * length (counted_points l.cloud) + l.corner * reads (length (counted_points l.cloud)) (l.depth - 1);
}

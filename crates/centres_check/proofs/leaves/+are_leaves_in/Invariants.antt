use Rattle.std.proofs.Common.{◌≡◌, ◌-◌, ◌*◌, map, take}
use Rattle.bounded_coords.specs.Clouds.{points_of}
use Rattle.answers.specs.Answers.{leaf_of}
use Rattle.corner_squares.specs.Squares.{left_over}
use Rattle.corner_squares.proofs.Trees.{AreBelowFirst}
use Rattle.centres_check.proofs.leaves.+are_leaves_in.Given as goal

abbrev pub decreases-are_leaves_in : goal.decreases-are_leaves_in
decreases-are_leaves_in l = l.depth

abbrev pub invariant-loop-corner : goal.invariant-loop-corner
invariant-loop-corner l = record {
  stays : l.placed.items ≡ l.fn.placed.items;
  below : AreBelowFirst l.side (l.depth - 1) l.corner (points_of l.cloud) (left_over l.fn.placed.items (points_of l.cloud)) (take (l.corner * l.part) (map leaf_of l.leaves));
}

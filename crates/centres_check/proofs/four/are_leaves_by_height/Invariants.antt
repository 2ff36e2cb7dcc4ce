use Rattle.std.proofs.Common.{◌≤ℤ◌, ◌-ℤ◌, pos, List, ℤ, map}
use Rattle.bounded_coords.specs.Clouds.{points_of}
use Rattle.answers.specs.Answers.{leaf_of}
use Rattle.bounds_model.specs.FourAnswer.{AreHeights}
use Rattle.corner_squares.specs.LeastPoints.{point_of}
use Rattle.centres_check.proofs.Walk.{AreFound, IsAtPlace}
use Rattle.centres_check.proofs.four.are_leaves_by_height.Given as goal

abbrev pub invariant-heights : goal.invariant-heights
invariant-heights l = record {
  found : AreFound l.side (point_of l.least) (points_of l.cloud) (map leaf_of l.leaves) l.k l.from;
  places : (heights : List ℤ) → AreHeights l.side (point_of l.least) (points_of l.cloud) heights → IsAtPlace heights l.k l.from;
  start : (l.least.y -ℤ pos l.side) ≤ℤ l.from;
}

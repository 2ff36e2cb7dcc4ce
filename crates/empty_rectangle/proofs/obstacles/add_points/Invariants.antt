use Rattle.std.proofs.Common.{take}
use Rattle.bounded_coords.specs.Clouds.{points_of}
use Rattle.empty_rectangle.specs.Points.{AreObstacles}
use Rattle.empty_rectangle.proofs.obstacles.add_points.Given as goal

-- the points before i were added
abbrev pub invariant-points : goal.invariant-points
invariant-points l = record {
  added : AreObstacles l.fn.frame (points_of l.cloud) (take l.i (points_of l.cloud)) l.obstacles.items;
}

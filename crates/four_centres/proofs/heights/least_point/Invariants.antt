use Rattle.std.proofs.Common.{◌≤◌, ◌+◌}
use Rattle.bounds_model.specs.Numbers.{IsWithin}
use Rattle.bounds_model.specs.Plane.{plane_limit}
use Rattle.bounded_coords.specs.Clouds.{counted_points}
use Rattle.corner_squares.specs.LeastPoints.{point_of}
use Rattle.corner_squares.proofs.LeastPlaces.{IsLeastOf}
use Rattle.four_centres.proofs.heights.least_point.Given as goal

abbrev pub invariant-points : goal.invariant-points
invariant-points g l = record {
  least : IsLeastOf (counted_points l.cloud) l.i (point_of l.least);
  x : IsWithin plane_limit l.least.x;
  y : IsWithin plane_limit l.least.y;
  steps : l.steps ≤ l.fn.steps + l.i;
}

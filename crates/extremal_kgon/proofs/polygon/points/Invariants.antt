use Rattle.std.proofs.Common.{◌≡◌, map, take}
use Rattle.bounds_model.specs.Plane.{point_at}
use Rattle.bounded_coords.specs.Clouds.{points_of}
use Rattle.extremal_kgon.proofs.polygon.points.Given as goal

abbrev pub invariant-numbers : goal.invariant-numbers
invariant-numbers l = l.points.items ≡ map (point_at (points_of l.cloud)) (take l.i l.numbers)

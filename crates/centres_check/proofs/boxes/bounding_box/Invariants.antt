use Rattle.bounded_coords.specs.Clouds.{points_of}
use Rattle.corner_squares.specs.Extents.{IsFound}
use Rattle.centres_check.proofs.boxes.bounding_box.Given as goal

abbrev pub invariant-loop-i : goal.invariant-loop-i
invariant-loop-i l = IsFound (points_of l.cloud) l.placed l.i l.found

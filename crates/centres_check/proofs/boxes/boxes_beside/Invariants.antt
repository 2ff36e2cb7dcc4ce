use Rattle.std.proofs.Common.{[], ◌∷◌, ◌++◌}
use Rattle.bounded_coords.specs.Clouds.{points_of}
use Rattle.corner_squares.specs.Extents.{IsFound}
use Rattle.centres_check.proofs.boxes.boxes_beside.Given as goal

abbrev pub invariant-points : goal.invariant-points
invariant-points l = record {
  first : IsFound (points_of l.cloud) (l.placed ++ l.lower_left ∷ []) l.i l.first;
  second : IsFound (points_of l.cloud) (l.placed ++ l.lower_right ∷ []) l.i l.second;
  third : IsFound (points_of l.cloud) (l.placed ++ l.upper_left ∷ []) l.i l.third;
  fourth : IsFound (points_of l.cloud) (l.placed ++ l.upper_right ∷ []) l.i l.fourth;
}

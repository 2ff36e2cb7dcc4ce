use Rattle.std.proofs.Common.{◌≡◌, length, All}
use Rattle.bounds_model.specs.Numbers.{AllNumbered}
use Rattle.bounds_model.specs.Plane.{vector, point_at}
use Rattle.added_areas.specs.PlaneVectors.{vector_of, IsShort}
use Rattle.added_areas.proofs.vectors.vectors_from.Given as goal

abbrev pub invariant-corners : goal.invariant-corners
invariant-corners l = record {
  as_many : length l.vectors.items ≡ l.i;
  each : AllNumbered (λ j v. vector_of v ≡ vector (point_at l.corners l.first) (point_at l.corners j)) l.vectors.items;
  short : All IsShort l.vectors.items;
}

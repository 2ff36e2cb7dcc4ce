use Rattle.std.proofs.Common.{◌≡◌, ◌+◌, length, All}
use Rattle.bounds_model.specs.Numbers.{AllNumbered}
use Rattle.bounds_model.specs.Plane.{vector, point_at}
use Rattle.added_areas.specs.PlaneVectors.{vector_of, IsShort}
use Rattle.extremal_kgon.proofs.vectors.vectors_after.Given as goal

abbrev pub invariant-later : goal.invariant-later
invariant-later l = record {
  as_many : l.first + 1 + length l.vectors.items ≡ l.i;
  each : AllNumbered (λ j v. vector_of v ≡ vector (point_at l.corners l.first) (point_at l.corners (l.first + 1 + j))) l.vectors.items;
  short : All IsShort l.vectors.items;
}

use Rattle.std.proofs.Common.{◌≡◌, ◌+◌, ◌^◌, [], length, map}
use Rattle.bounds_model.specs.Plane.{point_at, cross}
use Rattle.added_areas.specs.PlaneVectors.{vector_of}
use Rattle.polygon_check.specs.PotentialRows.{Adds}
use Rattle.polygon_check.proofs.potentials.put_areas.Given as goal

abbrev pub invariant-middles : goal.invariant-middles
invariant-middles l =
    let vectors = map vector_of l.vectors in
    record {
      index : l.first + 1 + length l.areas.items ≡ l.middle;
      adds : Adds (2 ^ 39) (λ j. cross (point_at vectors (l.first + 1 + j)) (point_at vectors l.last)) (length l.areas.items) [] l.areas.items;
    }

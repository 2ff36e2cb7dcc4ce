use Rattle.std.proofs.Common.{map}
use Rattle.added_areas.specs.PlaneVectors.{vector_of}
use Rattle.extremal_kgon.specs.Rows.{area_at, AddsAreas}
use Rattle.extremal_kgon.proofs.triangles.push_areas.Given as goal

abbrev pub invariant-earlier : goal.invariant-earlier
invariant-earlier l = AddsAreas (area_at (map vector_of l.vectors) l.i) l.j l.fn.areas.items l.areas.items

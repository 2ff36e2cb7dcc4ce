use Rattle.std.proofs.Common.{map}
use Rattle.added_areas.specs.PlaneVectors.{vector_of}
use Rattle.extremal_kgon.specs.Rows.{AreAreas}
use Rattle.extremal_kgon.proofs.triangles.set_areas.Given as goal

abbrev pub invariant-later : goal.invariant-later
invariant-later l = AreAreas (map vector_of l.vectors) l.i l.areas.items

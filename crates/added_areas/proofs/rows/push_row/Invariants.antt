use Rattle.std.proofs.Common.{map}
use Rattle.added_areas.specs.PlaneVectors.{vector_of}
use Rattle.added_areas.proofs.AddedNumbers.{IsRowSoFar}
use Rattle.added_areas.proofs.rows.push_row.Given as goal

abbrev pub invariant-lasts : goal.invariant-lasts
invariant-lasts l = IsRowSoFar (map vector_of l.vectors) l.layer l.last l.rows.items

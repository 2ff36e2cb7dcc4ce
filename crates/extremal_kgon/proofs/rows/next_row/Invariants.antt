use Rattle.std.proofs.Common.{◌≡◌, map}
use Rattle.added_areas.specs.PlaneVectors.{vector_of}
use Rattle.extremal_kgon.specs.Rows.{pairs_below}
use Rattle.extremal_kgon.proofs.NextRows.{IsRowSoFar}
use Rattle.extremal_kgon.proofs.rows.next_row.Given as goal

abbrev pub invariant-later : goal.invariant-later
invariant-later l = record {
  row : IsRowSoFar (map vector_of l.vectors) l.before l.row.items l.i;
  start : l.start ≡ pairs_below l.i;
}

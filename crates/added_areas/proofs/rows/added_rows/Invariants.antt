use Rattle.std.proofs.Common.{◌≡◌, ◌+◌, ◌*◌, length, map}
use Rattle.added_areas.specs.PlaneVectors.{vector_of}
use Rattle.added_areas.specs.AddedRows.{AreAdded}
use Rattle.added_areas.proofs.AddedNumbers.{AreZeros}
use Rattle.added_areas.proofs.rows.added_rows.Given as goal

abbrev pub invariant-zeros : goal.invariant-zeros
invariant-zeros l = AreZeros l._last l.rows.items

abbrev pub invariant-layers : goal.invariant-layers
invariant-layers l = record {
  as_many : length l.rows.items ≡ (l.layer + 1) * length l.vectors;
  rows : AreAdded (map vector_of l.vectors) l.layer l.rows.items;
}

use Rattle.std.proofs.Common.{◌≡◌, take}
use Rattle.csv.specs.Records as csv
use Rattle.point_text.specs.Fields.{AreFields}
use Rattle.point_text.proofs.records.record_fields.Given as goal

abbrev pub invariant-loop-field : goal.invariant-loop-field
invariant-loop-field l = record {
  row : l.field-iterator.row.now ≡ l.row;
  read : AreFields l.fields (take l.field-iterator.at (csv.fields_of l.row));
}

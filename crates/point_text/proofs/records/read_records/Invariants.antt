use Rattle.std.proofs.Common.{◌<◌}
use Rattle.bounds_model.specs.Asks.{shape_of}
use Rattle.bounded_coords.specs.Asked.{asked}
use Rattle.point_text.proofs.RecordLaws.{Judges}
use Rattle.point_text.proofs.records.read_records.Given as goal

abbrev pub invariant-loop-row : goal.invariant-loop-row
invariant-loop-row l = record {
  turns : 0 < l.row-iterator.left;
  judges : Judges (shape_of (asked l.ask)) l.bytes l.row-iterator.rdr l.judgement;
}

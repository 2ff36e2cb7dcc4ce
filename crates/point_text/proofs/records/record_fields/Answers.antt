use Rattle.std.proofs.Common.{◌≡◌, ◌∙◌, ap, suc, take, arith}
use Rattle.csv.specs.Records as csv
use Rattle.point_text.proofs.RecordLaws.{take_field, take_fields}
use Rattle.point_text.proofs.records.record_fields.Goals as goal

pub loop-field-preserved : goal.loop-field-preserved
loop-field-preserved c =
    let steps = rw (c.in-Some.is, c.loop-field.invariant.row) at c.next.ensures.steps in
    let fields = csv.fields_of c.args.row.now in
    let at = c.loop-field.field-iterator.at in
    let behind : c.next.new.self.at ≡ suc at = steps.2 ∙ omega arith in
    record {
      row = ap (λ row. row.now) steps.0;
      read = rw (behind, take_field fields at c.in-Some.field.now steps.1) (c.with-fields.ensures (take at fields) c.in-Some.field.now c.loop-field.invariant.read c.read_field.ensures);
    }

pub returns : goal.returns
returns c =
    let steps = rw (c.in-None.is, c.loop-field.invariant.row) at c.next.ensures.steps in
    rw (take_fields (csv.fields_of c.args.row.now) c.loop-field.field-iterator.at steps.1) at c.loop-field.invariant.read

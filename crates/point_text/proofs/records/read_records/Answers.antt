use Rattle.std.proofs.Common.{◌∙◌, [], refl, subst, inr}
use Rattle.csv.specs.Records as csv
use Rattle.bounds_model.specs.Asks.{shape_of}
use Rattle.bounded_coords.specs.Asked.{asked}
use Rattle.point_text.specs.Judged.{IsJudgement}
use Rattle.point_text.proofs.RecordLaws.{judges_none, judges_more, judges_all}
use Rattle.point_text.proofs.records.read_records.Goals as goal

pub loop-row-init : goal.loop-row-init
loop-row-init c =
    let from = c.from_reader.ensures in
    let flexible = c.flexible.ensures in
    let headers = c.has_headers.ensures in
    let judged = subst (λ shape. IsJudgement c.new-judgement.result shape []) c.shape.ensures c.new-judgement.ensures.judged in
    let start = c.into_iter-row-iterator.ensures.into_iter_gives ∙ refl in
    rw (start, c.into_byte_records-records.ensures.rdr) (record {
      turns = c.into_byte_records-records.ensures.left;
      judges = judges_none (shape_of (asked c.args.ask.now)) c.args.bytes.now _ _ (rw (flexible, headers) at from.trim ∙ c.new.ensures.trim)
          (inr (inr (rw (flexible, headers) at from.has_headers, from.headers)))
          (rw (flexible, headers) at from.config ∙ c.new.ensures.config) from.source from.state judged c.new-judgement.ensures.lines;
    })

pub loop-row-preserved : goal.loop-row-preserved
loop-row-preserved c =
    let turns = c.loop-row.invariant.turns in
    let is = c.loop-row.invariant.judges in
    let step = rw (c.in-Some.is, c.in-Ok.is) at ((c.next.ensures.steps turns is.untrimmed).0 is.ready) in
    let row = csv.fields_of c.in-Ok.row in
    record {
      turns = step.2;
      judges = judges_more (shape_of (asked c.args.ask.now)) c.args.bytes.now c.loop-row.row-iterator.rdr c.next.new.self.rdr c.loop-row.judgement c.take.new.self row is step.0 step.1
          (c.take.ensures.judged (shape_of (asked c.args.ask.now)) is.before row is.judged c.record_fields.ensures) c.take.ensures.lines;
    }

pub returns : goal.returns
returns c =
    let turns = c.loop-row.invariant.turns in
    let is = c.loop-row.invariant.judges in
    let step = rw c.in-None.is at ((c.next.ensures.steps turns is.untrimmed).0 is.ready) in
    let all = judges_all (shape_of (asked c.args.ask.now)) c.args.bytes.now c.loop-row.row-iterator.rdr c.next.new.self.rdr c.loop-row.judgement is step in
    rw all (c.end.ensures.sets (shape_of (asked c.args.ask.now)) is.before is.judged)

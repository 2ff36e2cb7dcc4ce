use Rattle.std.proofs.Common.{arith, [], ◌∷◌}
use Rattle.std.proofs.lemmas.List.{length-append}
use Rattle.bounds_model.specs.AnswerText.LineFormats.{untitled}
use Rattle.bounds_model.specs.AnswerText.Formats.{lines_at}
use Rattle.answer_lines.specs.Lines.{lines_left}
use Rattle.answer_lines.proofs.LineReadings.{one_more}
use Rattle.answer_lines.proofs.line_reading.read_list.Goals as goal

pub loop-preserved : goal.loop-preserved
loop-preserved g c =
    let fields = g.T.Fields.FieldList.fields in
    record {
      so_far = rw c.in_ok-add.ensures.added
          (one_more fields (λ v. g.T.Fields.FieldList.values (g.T.Line.parts v)) c.loop.values c.args.count c.loop.counter (lines_left c.loop.text) c.in_ok-value.value (lines_left c.read_line.new.text) (lines_at c.args.count (untitled fields) (lines_left c.args.text.now))
          c.loop-test.true c.in_ok-value.ensures c.loop.invariant.so_far);
      amount = rw c.in_ok-add.ensures.added (omega (arith, length-append c.loop.values (c.in_ok-value.value ∷ []), c.loop.invariant.amount));
    }

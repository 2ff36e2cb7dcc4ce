use Rattle.std.proofs.Common.{◌≡◌, ◌-◌, length, map}
use Rattle.bounds_model.specs.AnswerText.LineFormats.{untitled}
use Rattle.bounds_model.specs.AnswerText.Formats.{lines_at}
use Rattle.answer_lines.specs.Lines.{lines_left}
use Rattle.answer_lines.proofs.LineReadings.{with_front}
use Rattle.answer_lines.proofs.line_reading.read_list.Given as goal

abbrev pub invariant-loop : goal.invariant-loop
invariant-loop g l = record {
  so_far : with_front (map (λ v. g.T.Fields.FieldList.values (g.T.Line.parts v)) l.values) (lines_at (l.count - l.counter) (untitled g.T.Fields.FieldList.fields) (lines_left l.text)) ≡ lines_at l.count (untitled g.T.Fields.FieldList.fields) (lines_left l.fn.text);
  amount : length l.values ≡ l.counter;
}

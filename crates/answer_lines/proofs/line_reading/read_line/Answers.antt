use Rattle.bounds_model.specs.AnswerText.LineFormats.{untitled}
use Rattle.answer_lines.specs.Lines.{words_left, lines_left}
use Rattle.answer_lines.proofs.LineReadings.{line_read}
use Rattle.answer_lines.proofs.line_reading.read_line.Goals as goal

pub returns : goal.returns
returns g c =
    line_read (untitled g.T.Fields.FieldList.fields) (λ v. g.T.Fields.FieldList.values (g.T.Line.parts v)) (lines_left c.args.text.now) (words_left c.in_ok-words.words) (lines_left c.next_line.new.self) c.value_of.result c.decide.result c.in_ok-words.ensures
    c.value_of.ensures c.decide.ensures.decided

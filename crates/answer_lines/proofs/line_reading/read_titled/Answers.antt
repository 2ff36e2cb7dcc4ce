use Rattle.bounds_model.specs.AnswerText.LineFormats.{titled}
use Rattle.answer_lines.specs.Lines.{words_left, lines_left}
use Rattle.answer_lines.proofs.LineReadings.{line_read}
use Rattle.answer_lines.proofs.line_reading.read_titled.Goals as goal

pub returns : goal.returns
returns g c =
    line_read (titled c.args.word.now g.T.Fields.FieldList.fields) (λ v. g.T.Fields.FieldList.values (g.T.Line.parts v)) (lines_left c.args.text.now) (words_left c.in_ok-words.words) (lines_left c.next_line.new.self) c.titled_words.result c.decide.result c.in_ok-words.ensures
    c.titled_words.ensures c.decide.ensures.decided

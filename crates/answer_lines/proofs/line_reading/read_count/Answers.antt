use Rattle.bounds_model.specs.AnswerText.Formats.{count_format}
use Rattle.answer_lines.specs.Lines.{words_left, lines_left}
use Rattle.answer_lines.proofs.LineReadings.{line_read}
use Rattle.answer_lines.proofs.line_reading.read_count.Goals as goal

pub returns-clause-count : goal.returns-clause-count
returns-clause-count c =
    line_read (count_format (record { word = c.args.word.now; low = c.args.low; high = c.args.high })) (λ n. (n, tt)) (lines_left c.args.text.now) (words_left c.in_ok-words.words) (lines_left c.next_line.new.self)
    c.count_words.result c.decide.result c.in_ok-words.ensures c.count_words.ensures.count c.decide.ensures.decided

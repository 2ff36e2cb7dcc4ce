use Rattle.bounds_model.specs.AnswerText.Kinds.{kinds}
use Rattle.std.proofs.lemmas.Result.{err_from_is_err_and}
use Rattle.witness_format.specs.Heads.{known_formats, named_of, first_at}
use Rattle.answer_lines.specs.Lines.{words_left, lines_left, next_words}
use Rattle.witness_format.proofs.FirstLines.{first_read, first_unknown, first_refused}
use Rattle.answer_lines.proofs.LineReadings.{refuses_too}
use Rattle.witness_format.proofs.head.read_first.Goals as goal

pub returns-in-Some : goal.returns-in-Some
returns-in-Some c = first_read (known_formats c.args.formats) kinds (lines_left c.args.text.now) (words_left c.in_ok-words.words) (lines_left c.next_line.new.self) (named_of c.in-Some.named) c.in_ok-words.ensures c.in-Some.ensures

pub returns-in-None : goal.returns-in-None
returns-in-None c = first_unknown (known_formats c.args.formats) kinds (lines_left c.args.text.now) (words_left c.in_ok-words.words) (lines_left c.next_line.new.self) c.in_ok-words.ensures c.in-None.ensures

pub returns-in_err-words : goal.returns-in_err-words
returns-in_err-words c =
    let formats = known_formats c.args.formats in
    let from = lines_left c.args.text.now in
    let refused = refuses_too c.in_err-words.field-0.0 (next_words from) (first_at formats kinds from) (λ refusal e. first_refused formats kinds from refusal e) c.in_err-words.ensures in
    let exit = err_from_is_err_and c.from_residual.result c.from_residual.ensures.1 in
    rw (exit.1, exit.2) refused

use Rattle.std.proofs.Common.{[], ◌∷◌, Ok, Err}
use Rattle.bounds_model.specs.AnswerText.Heads.{plain}
use Rattle.bounds_model.specs.AnswerText.Kinds.{kinds}
use Rattle.bounds_model.specs.AnswerText.Reading.{all_lines, report_of}
use Rattle.witness_format.specs.Kinds.{TextMayWant}
use Rattle.witness_format.proofs.KindTexts.{reads_report, reads_answer, refuses_answer}
use Rattle.witness_format.proofs.reading.read_answer.Goals as goal

pub returns-in-Ok : goal.returns-in-Ok
returns-in-Ok c =
    let wants = TextMayWant kinds (all_lines c.args.bytes.now) in
    reads_answer wants (report_of (plain ∷ []) kinds c.args.bytes.now) c.in-Ok.report (reads_report wants (plain ∷ []) kinds c.args.bytes.now (Ok c.in-Ok.report) c.in-Ok.ensures)

pub returns-in-Err : goal.returns-in-Err
returns-in-Err c =
    let wants = TextMayWant kinds (all_lines c.args.bytes.now) in
    refuses_answer wants c.in-Err.fault (report_of (plain ∷ []) kinds c.args.bytes.now) (reads_report wants (plain ∷ []) kinds c.args.bytes.now (Err c.in-Err.fault) c.in-Err.ensures)

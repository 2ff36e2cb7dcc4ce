use Rattle.std.proofs.Common.{◌≡◌, ◌∙◌, sym, ap, subst, [], ◌∷◌, Ok, Err}
use Rattle.bounds_model.specs.ErrorLines.{answer_file}
use Rattle.bounds_model.specs.AnswerText.Heads.{plain, scaled}
use Rattle.bounds_model.specs.AnswerText.Reading.{reading_report, all_lines}
use Rattle.bounds_model.specs.AnswerText.Kinds.{kinds}
use Rattle.witness_format.specs.Kinds.{ReportMayWant}
use Rattle.answer_lines.specs.Outcomes.{RefusesOr}
use Rattle.answers.specs.Answers.{report_of}
use Rattle.bounds_tool.specs.Causes.{meant}
use Rattle.bounds_tool.specs.Run.{AnswerCause}
use Rattle.bounds_tool.proofs.AnswerFiles.{answer_in-told, answer_refused, answer_unread}
use Rattle.bounds_tool.proofs.PointFiles.{if_same}
use Rattle.bounds_tool.proofs.FilesRead.{read_on, read_failed}
use Rattle.bounds_tool.proofs.reading.read_answer.Goals as goal

pub returns-in-Ok-clause-files : goal.returns-in-Ok-clause-files
returns-in-Ok-clause-files g c =
    read_on answer_file c.args.name.now (g.F.Files.state c.args.files.now) (g.F.Files.state c.read_file.new.files) _ _ c.in_ok-bytes.ensures.files

pub returns-clause-files : goal.returns-clause-files
returns-clause-files g c =
    read_on answer_file c.args.name.now (g.F.Files.state c.args.files.now) (g.F.Files.state c.read_file.new.files) _ _ c.in_ok-bytes.ensures.files

pub returns-in_err-bytes-clause-files : goal.returns-in_err-bytes-clause-files
returns-in_err-bytes-clause-files g c =
    read_failed answer_file c.args.name.now (g.F.Files.state c.args.files.now) (g.F.Files.state c.read_file.new.files) _ _ c.from_residual.ensures.1 c.in_err-bytes.ensures.files

pub returns-in-Ok-clause-answer : goal.returns-in-Ok-clause-answer
returns-in-Ok-clause-answer g c =
    let bytes = c.in_ok-bytes.bytes in
    let judged = Ok (report_of c.in-Ok.report) in
    let reads : reading_report bytes ≡ judged = ap reading_report (sym c.as_slice.ensures) ∙ c.in-Ok.ensures.reading in
    answer_in-told (g.F.Files.state c.args.files.now).told c.args.name.now bytes judged c.in_ok-bytes.ensures.bytes c.in_ok-bytes.ensures.within reads

pub returns-clause-cause : goal.returns-clause-cause
returns-clause-cause g c =
    let old = g.F.Files.state c.args.files.now in
    let new = g.F.Files.state c.read_file.new.files in
    let bytes = c.in_ok-bytes.bytes in
    let reads = subst (λ all. RefusesOr (ReportMayWant (plain ∷ scaled ∷ []) kinds (all_lines all)) c.in-Err.fault (reading_report all)) c.as_slice.ensures c.in-Err.ensures.reading in
    subst (λ cause. AnswerCause g.F.Files.last_count c.args.name.now old new (meant cause)) (sym c.from.ensures)
    (answer_refused g.F.Files.last_count c.args.name.now bytes old new c.in-Err.fault c.in_ok-bytes.ensures.bytes c.in_ok-bytes.ensures.within reads)

pub returns-in_err-bytes-clause-cause : goal.returns-in_err-bytes-clause-cause
returns-in_err-bytes-clause-cause g c =
    let old = g.F.Files.state c.args.files.now in
    let new = g.F.Files.state c.read_file.new.files in
    let fault = c.in_err-bytes.field-0.0 in
    if_same (λ cause. AnswerCause g.F.Files.last_count c.args.name.now old new (meant cause)) c.from_residual.result fault c.from_residual.ensures.1
    (answer_unread g.F.Files.last_count c.args.name.now old new (meant fault) c.in_err-bytes.ensures.cause c.in_err-bytes.ensures.memory)

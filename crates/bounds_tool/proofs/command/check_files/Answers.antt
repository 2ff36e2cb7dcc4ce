use Rattle.std.proofs.Common.{◌≡◌, ◌↔◌, ◌<◌, inr, subst, IsTrue, length, Option, Ok, IfSome}
use Rattle.bounds_model.specs.Asks.{PointFile}
use Rattle.bounds_model.specs.Answers.{IsFirstOfBest}
use Rattle.bounds_model.specs.Reports.{PassesAt, IsBestAt}
use Rattle.witness_check.specs.Files.{file_of}
use Rattle.bounds_model.specs.ErrorLines.{out_of_memory}
use Rattle.bounded_coords.specs.Asked.{asked}
use Rattle.bnd_io.specs.Files.{Folder, bytes_of}
use Rattle.answers.specs.Answers.{report_of}
use Rattle.command_line.specs.Words.{check_task}
use Rattle.bounds_tool.specs.declared.cause.Cause.TheVariants.{OutOfMemory}
use Rattle.bounds_tool.specs.Causes.{meant}
use Rattle.bounds_tool.specs.Judging.{points_in, answer_in}
use Rattle.bounds_tool.specs.Run.{ComesOf}
use Rattle.bounds_tool.proofs.AnswerFiles.{answer_file_has_bytes, answer_cause_before}
use Rattle.bounds_tool.proofs.FilesRead.{checking_read, checking_failed, checking_unread}
use Rattle.bounds_tool.proofs.OpenedFiles.{accepted}
use Rattle.bounds_tool.proofs.PointFiles.{if_same}
use Rattle.bounds_tool.proofs.Works.{checked}
use Rattle.bounds_tool.proofs.command.check_files.Goals as goal

pub returns-clause-output : goal.returns-clause-output
returns-clause-output g c =
    let ask = asked c.args.ask.now in
    let report = report_of c.in_ok-report.report in
    let same : file_of c.scale.result c.view.result ≡ c.in_ok-whole.whole = λ i. record { scale = c.scale.ensures.value i; sets = c.view.ensures i } in
    checked (g.F.Files.state c.args.files.now).told ask c.args.form c.args.points.now c.args.answer.now c.in_ok-whole.whole report c.in_ok-passes.passes c.in_ok-whole.ensures.points
    (subst (λ (told : Option Folder). IfSome told (λ folder. answer_in (bytes_of folder c.args.answer.now) ≡ Ok report)) c.in_ok-whole.ensures.files.reads.continues.told c.in_ok-report.ensures.answer)
    (subst (λ file. IsTrue c.in_ok-passes.passes ↔ PassesAt ask file report) same c.in_ok-passes.ensures.passes)
    (subst (λ file. IsTrue c.in_ok-passes.passes → IsBestAt ask file report) same c.in_ok-passes.ensures.best)
    (subst (λ (file : PointFile). IsTrue c.in_ok-passes.passes → IsFirstOfBest ask file.sets report.answer) same c.in_ok-passes.ensures.first)

-- ---- the files

pub returns-in_err-whole-clause-files : goal.returns-in_err-whole-clause-files
returns-in_err-whole-clause-files g c =
    checking_unread (asked c.args.ask.now) c.args.form c.args.points.now c.args.answer.now (g.F.Files.state c.args.files.now) (g.F.Files.state c.read_points.new.files) _ _ c.from_residual.ensures.1 c.in_err-whole.ensures.files

pub returns-in_err-report-clause-files : goal.returns-in_err-report-clause-files
returns-in_err-report-clause-files g c =
    let old = g.F.Files.state c.args.files.now in
    let middle = g.F.Files.state c.read_points.new.files in
    let ask = asked c.args.ask.now in
    checking_failed ask c.args.form c.args.points.now c.args.answer.now old middle (g.F.Files.state c.read_answer.new.files) _ _ _ c.from_residual-in_err-report.ensures.1
    (accepted old.told (λ folder. points_in c.args.form ask (bytes_of folder c.args.points.now)) c.in_ok-whole.whole c.in_ok-whole.ensures.points) c.in_ok-whole.ensures.files c.in_err-report.ensures.files

pub returns-in_err-passes-clause-files : goal.returns-in_err-passes-clause-files
returns-in_err-passes-clause-files g c =
    let old = g.F.Files.state c.args.files.now in
    let middle = g.F.Files.state c.read_points.new.files in
    let ask = asked c.args.ask.now in
    checking_read ask c.args.form c.args.points.now c.args.answer.now old middle (g.F.Files.state c.read_answer.new.files) _ _ _
    (accepted old.told (λ folder. points_in c.args.form ask (bytes_of folder c.args.points.now)) c.in_ok-whole.whole c.in_ok-whole.ensures.points) c.in_ok-whole.ensures.files c.in_ok-report.ensures.files

pub returns-clause-files : goal.returns-clause-files
returns-clause-files g c =
    let old = g.F.Files.state c.args.files.now in
    let middle = g.F.Files.state c.read_points.new.files in
    let ask = asked c.args.ask.now in
    checking_read ask c.args.form c.args.points.now c.args.answer.now old middle (g.F.Files.state c.read_answer.new.files) _ _ _
    (accepted old.told (λ folder. points_in c.args.form ask (bytes_of folder c.args.points.now)) c.in_ok-whole.whole c.in_ok-whole.ensures.points) c.in_ok-whole.ensures.files c.in_ok-report.ensures.files

-- ---- the causes

pub returns-in_err-report-clause-cause : goal.returns-in_err-report-clause-cause
returns-in_err-report-clause-cause g c =
    let old = g.F.Files.state c.args.files.now in
    let middle = g.F.Files.state c.read_points.new.files in
    let new = g.F.Files.state c.read_answer.new.files in
    let ask = asked c.args.ask.now in
    let fault = c.in_err-report.field-0.0 in
    if_same (λ cause. ComesOf g.F.Files.last_count (check_task ask c.args.form c.args.points.now c.args.answer.now) old new (meant cause)) c.from_residual-in_err-report.result fault c.from_residual-in_err-report.ensures.1
    (inr (
      accepted old.told (λ folder. points_in c.args.form ask (bytes_of folder c.args.points.now)) c.in_ok-whole.whole c.in_ok-whole.ensures.points,
      answer_cause_before g.F.Files.last_count c.args.answer.now old middle new (meant fault) c.in_ok-whole.ensures.files.reads.continues c.in_err-report.ensures.cause,
    ))

pub returns-in_err-passes-clause-cause : goal.returns-in_err-passes-clause-cause
returns-in_err-passes-clause-cause g c =
    let old = g.F.Files.state c.args.files.now in
    let new = g.F.Files.state c.read_answer.new.files in
    let ask = asked c.args.ask.now in
    let some = answer_file_has_bytes (g.F.Files.state c.read_points.new.files).told c.args.answer.now (report_of c.in_ok-report.report) c.in_ok-report.ensures.answer in
    if_same (λ cause. ComesOf g.F.Files.last_count (check_task ask c.args.form c.args.points.now c.args.answer.now) old new (meant cause)) c.from_residual-in_err-passes.result OutOfMemory c.from_residual-in_err-passes.ensures.1
    (inr (
      accepted old.told (λ folder. points_in c.args.form ask (bytes_of folder c.args.points.now)) c.in_ok-whole.whole c.in_ok-whole.ensures.points,
      subst (λ (told : Option Folder). IfSome told (λ folder. 0 < length (bytes_of folder c.args.answer.now))) c.in_ok-whole.ensures.files.reads.continues.told some,
    ))

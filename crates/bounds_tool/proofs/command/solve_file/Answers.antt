use Rattle.std.proofs.Common.{◌≡◌, refl, inr, ◌∙◌, ap, sym, subst, ℕ, ◌+◌, ◌*◌, ◌≤◌}
use Rattle.bounds_model.specs.AnswerText.Written.{size_line}
use Rattle.bounded_coords.specs.Asked.{asked}
use Rattle.answers.specs.Answers.{report_of}
use Rattle.bnd_io.specs.Files.{bytes_of}
use Rattle.command_line.specs.Words.{solve_task}
use Rattle.bounds_tool.specs.declared.cause.Cause.TheVariants.{Solving, OutOfMemory}
use Rattle.bounds_tool.specs.Causes.{meant}
use Rattle.bounds_tool.specs.Outputs.{IsDone}
use Rattle.bounds_tool.specs.Run.{ComesOf, TaskOutput}
use Rattle.bounds_tool.specs.Judging.{points_in}
use Rattle.bounds_tool.proofs.OpenedFiles.{accepted}
use Rattle.bounds_tool.proofs.FilesRead.{solving_read, solving_failed}
use Rattle.bounds_tool.proofs.PointFiles.{if_same}
use Rattle.bounds_tool.proofs.Limits.{unsolved_file}
use Rattle.bounds_tool.proofs.StepCounts.{file_steps}
use Rattle.bounds_tool.proofs.Works.{solved, sized}
use Rattle.bounds_tool.proofs.command.solve_file.Goals as goal

-- ---- the output

pub returns-then-brief-clause-output : goal.returns-then-brief-clause-output
returns-then-brief-clause-output g c =
    let ask = asked c.args.ask.now in
    subst (λ brief. TaskOutput IsDone (solve_task ask c.args.form brief c.args.file.now) (g.F.Files.state c.args.files.now) c.in_ok-line.line.items) (sym c.if-brief.true)
    (sized (g.F.Files.state c.args.files.now).told ask c.args.form c.args.file.now c.in_ok-points.points (report_of c.in_ok-report.report) c.in_ok-line.line.items c.in_ok-points.ensures.points
    c.in_ok-report.ensures.best c.in_ok-report.ensures.taken (c.in_ok-line.ensures ∙ ap size_line c.full_size.ensures))

pub returns-clause-output : goal.returns-clause-output
returns-clause-output g c =
    let ask = asked c.args.ask.now in
    subst (λ brief. TaskOutput IsDone (solve_task ask c.args.form brief c.args.file.now) (g.F.Files.state c.args.files.now) c.in_ok-text.text) (sym c.if-brief.false)
    (solved (g.F.Files.state c.args.files.now).told ask c.args.form c.args.file.now c.in_ok-points.points (report_of c.in_ok-report.report) c.in_ok-text.text c.in_ok-points.ensures.points
    c.in_ok-report.ensures.passes c.in_ok-report.ensures.best c.in_ok-report.ensures.first c.in_ok-report.ensures.taken c.in_ok-text.ensures)

-- ---- the files

pub returns-in_err-points-clause-files : goal.returns-in_err-points-clause-files
returns-in_err-points-clause-files g c =
    solving_failed (asked c.args.ask.now) c.args.form c.args.brief c.args.file.now (g.F.Files.state c.args.files.now) (g.F.Files.state c.read_points.new.files) _ _ c.from_residual.ensures.1 c.in_err-points.ensures.files

pub returns-in_err-report-clause-files : goal.returns-in_err-report-clause-files
returns-in_err-report-clause-files g c =
    solving_read (asked c.args.ask.now) c.args.form c.args.brief c.args.file.now (g.F.Files.state c.args.files.now) (g.F.Files.state c.read_points.new.files) _ _ c.in_ok-points.ensures.files

pub returns-in_err-line-clause-files : goal.returns-in_err-line-clause-files
returns-in_err-line-clause-files g c =
    solving_read (asked c.args.ask.now) c.args.form c.args.brief c.args.file.now (g.F.Files.state c.args.files.now) (g.F.Files.state c.read_points.new.files) _ _ c.in_ok-points.ensures.files

pub returns-then-brief-clause-files : goal.returns-then-brief-clause-files
returns-then-brief-clause-files g c =
    solving_read (asked c.args.ask.now) c.args.form c.args.brief c.args.file.now (g.F.Files.state c.args.files.now) (g.F.Files.state c.read_points.new.files) _ _ c.in_ok-points.ensures.files

pub returns-in_err-text-clause-files : goal.returns-in_err-text-clause-files
returns-in_err-text-clause-files g c =
    solving_read (asked c.args.ask.now) c.args.form c.args.brief c.args.file.now (g.F.Files.state c.args.files.now) (g.F.Files.state c.read_points.new.files) _ _ c.in_ok-points.ensures.files

pub returns-clause-files : goal.returns-clause-files
returns-clause-files g c =
    solving_read (asked c.args.ask.now) c.args.form c.args.brief c.args.file.now (g.F.Files.state c.args.files.now) (g.F.Files.state c.read_points.new.files) _ _ c.in_ok-points.ensures.files

-- ---- the causes

pub returns-in_err-report-clause-cause : goal.returns-in_err-report-clause-cause
returns-in_err-report-clause-cause g c =
    let ask = c.args.ask.now in
    let old = g.F.Files.state c.args.files.now in
    let new = g.F.Files.state c.read_points.new.files in
    let fault = c.in_err-report.field-0.0 in
    if_same (λ cause. ComesOf g.F.Files.last_count (solve_task (asked ask) c.args.form c.args.brief c.args.file.now) old new (meant cause)) c.from_residual-in_err-report.result (Solving fault) c.from_residual-in_err-report.ensures.1
    (unsolved_file g.F.Files.last_count ask c.args.form c.args.brief c.args.file.now old new c.in_ok-points.points fault c.in_ok-points.ensures.points
    c.in_err-report.ensures.cause)

pub returns-in_err-line-clause-cause : goal.returns-in_err-line-clause-cause
returns-in_err-line-clause-cause g c =
    let ask = asked c.args.ask.now in
    let old = g.F.Files.state c.args.files.now in
    if_same (λ cause. ComesOf g.F.Files.last_count (solve_task ask c.args.form c.args.brief c.args.file.now) old (g.F.Files.state c.read_points.new.files) (meant cause)) c.from_residual-in_err-line.result OutOfMemory c.from_residual-in_err-line.ensures.1
    (inr (inr (refl, accepted old.told (λ folder. points_in c.args.form ask (bytes_of folder c.args.file.now)) c.in_ok-points.points c.in_ok-points.ensures.points)))

pub returns-in_err-text-clause-cause : goal.returns-in_err-text-clause-cause
returns-in_err-text-clause-cause g c =
    let ask = asked c.args.ask.now in
    let old = g.F.Files.state c.args.files.now in
    if_same (λ cause. ComesOf g.F.Files.last_count (solve_task ask c.args.form c.args.brief c.args.file.now) old (g.F.Files.state c.read_points.new.files) (meant cause)) c.from_residual-in_err-text.result OutOfMemory c.from_residual-in_err-text.ensures.1
    (inr (inr (refl, accepted old.told (λ folder. points_in c.args.form ask (bytes_of folder c.args.file.now)) c.in_ok-points.points c.in_ok-points.ensures.points)))

-- ---- the steps

pub returns-in_err-line-clause-steps : goal.returns-in_err-line-clause-steps
returns-in_err-line-clause-steps g c =
    let ask = asked c.args.ask.now in
    file_steps ask c.args.form c.args.brief c.args.file.now (g.F.Files.state c.args.files.now) c.in_ok-points.points c.args.steps.now c.best_report.new.steps c.in_ok-points.ensures.points
    c.in_ok-report.ensures.cost c.in_ok-report.ensures.cost_of_four

pub returns-then-brief-clause-steps : goal.returns-then-brief-clause-steps
returns-then-brief-clause-steps g c =
    let ask = asked c.args.ask.now in
    file_steps ask c.args.form c.args.brief c.args.file.now (g.F.Files.state c.args.files.now) c.in_ok-points.points c.args.steps.now c.best_report.new.steps c.in_ok-points.ensures.points
    c.in_ok-report.ensures.cost c.in_ok-report.ensures.cost_of_four

pub returns-in_err-text-clause-steps : goal.returns-in_err-text-clause-steps
returns-in_err-text-clause-steps g c =
    let ask = asked c.args.ask.now in
    file_steps ask c.args.form c.args.brief c.args.file.now (g.F.Files.state c.args.files.now) c.in_ok-points.points c.args.steps.now c.best_report.new.steps c.in_ok-points.ensures.points
    c.in_ok-report.ensures.cost c.in_ok-report.ensures.cost_of_four

pub returns-clause-steps : goal.returns-clause-steps
returns-clause-steps g c =
    let ask = asked c.args.ask.now in
    file_steps ask c.args.form c.args.brief c.args.file.now (g.F.Files.state c.args.files.now) c.in_ok-points.points c.args.steps.now c.best_report.new.steps c.in_ok-points.ensures.points
    c.in_ok-report.ensures.cost c.in_ok-report.ensures.cost_of_four

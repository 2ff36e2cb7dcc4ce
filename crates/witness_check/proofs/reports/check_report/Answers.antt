use Rattle.std.proofs.Common.{◌≡◌, ℕ, ◌≤◌, arith}
use Rattle.bounded_coords.specs.Asked.{asked}
use Rattle.answers.specs.Answers.{report_of}
use Rattle.witness_check.specs.Files.{file_of}
use Rattle.witness_check.proofs.Scales as scales
use Rattle.witness_check.proofs.reports.check_report.Goals as goal

-- src/reports.rt:23:1
pub returns-clause-passes : goal.returns-clause-passes
returns-clause-passes c =
    scales.passing (asked c.args.ask.now) (file_of c.args.scale c.args.sets) (report_of c.args.report.now) c.check.result (omega arith) (omega arith) (omega arith) c.check.ensures.passes

pub returns-clause-best : goal.returns-clause-best
returns-clause-best c =
    scales.best (asked c.args.ask.now) (file_of c.args.scale c.args.sets) (report_of c.args.report.now) c.check.result c.passing_reports_are_best.ensures
    (returns-clause-passes c)

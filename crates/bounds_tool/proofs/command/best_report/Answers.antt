use Rattle.std.proofs.Common.{rules}
use Rattle.bounds_model.specs.Reports.{PassesAt}
use Rattle.bounded_coords.specs.Asked.{asked}
use Rattle.answers.specs.Answers.{report_of}
use Rattle.bounds_tool.proofs.command.best_report.Goals as goal

pub returns-clause-best : goal.returns-clause-best
returns-clause-best g c =
    let passes : PassesAt (asked c.args.ask.now) c.args.points.now (report_of record { scale = c.scale.result; answer = c.in_ok-answer.answer }) = search rules in
    c.passing_reports_are_best.ensures (asked c.args.ask.now) c.args.points.now (report_of record { scale = c.scale.result; answer = c.in_ok-answer.answer }) passes

pub returns-clause-ranges : goal.returns-clause-ranges
returns-clause-ranges g c =
    let passes : PassesAt (asked c.args.ask.now) c.args.points.now (report_of record { scale = c.scale.result; answer = c.in_ok-answer.answer }) = search rules in
    c.passing_reports_keep_ranges.ensures (asked c.args.ask.now) c.args.points.now (report_of record { scale = c.scale.result; answer = c.in_ok-answer.answer }) passes

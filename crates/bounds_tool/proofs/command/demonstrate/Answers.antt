use Rattle.std.proofs.Common.{◌∙◌, ap, ◌++◌}
use Rattle.bounds_model.specs.Asks.{shape_of, unscaled}
use Rattle.bounds_model.specs.Demo.{demo_sets}
use Rattle.bounds_model.specs.AnswerText.Written.{size_line}
use Rattle.bounded_coords.specs.Asked.{asked}
use Rattle.answers.specs.Answers.{report_of}
use Rattle.bounds_tool.specs.Outputs.{made_line}
use Rattle.bounds_tool.proofs.Works.{made_is_done}
use Rattle.bounds_tool.proofs.command.demonstrate.Goals as goal

pub returns-clause-output : goal.returns-clause-output
returns-clause-output g c =
    let ask = asked c.args.ask.now in
    made_is_done ask c.args.count (unscaled (demo_sets (shape_of ask) c.args.seed c.args.count)) c.in_ok-points.points (report_of c.in_ok-report.report) c.in_ok-text.text.items
    c.in_ok-points.ensures.sets c.in_ok-report.ensures.best c.in_ok-report.ensures.taken
    (c.in_ok-text.ensures ∙ ap (λ size. made_line c.args.count ++ size_line size) c.full_size.ensures)

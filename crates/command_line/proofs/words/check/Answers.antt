use Rattle.command_line.specs.Given.{meant_given}
use Rattle.command_line.specs.Options.{checking}
use Rattle.command_line.proofs.FirstCauses.{ask_exit, two_names}
use Rattle.command_line.proofs.words.check.Goals as goal

pub returns-in_err-ask-clause-task : goal.returns-in_err-ask-clause-task
returns-in_err-ask-clause-task c =
    ask_exit checking (meant_given c.args.given.now) c.in_ok-kind.kind c.in_err-ask.field-0.0 c.from_residual-in_err-ask.result c.from_residual-in_err-ask.ensures.1
    (two_names (meant_given c.args.given.now).files _ _ c.in_ok-points.ensures.names) c.in_ok-kind.ensures.kind c.in_ok-kind.ensures.fault c.in_ok-form.ensures.fault c.in_err-ask.ensures.fault

use Rattle.command_line.specs.Given.{meant_given}
use Rattle.command_line.specs.Options.{demonstrating}
use Rattle.command_line.proofs.FirstCauses.{ask_exit, no_names}
use Rattle.command_line.proofs.words.demo.Goals as goal

pub returns-in_err-ask-clause-task : goal.returns-in_err-ask-clause-task
returns-in_err-ask-clause-task c =
    ask_exit demonstrating (meant_given c.args.given.now) c.in_ok-kind.kind c.in_err-ask.field-0.0 c.from_residual-in_err-ask.result c.from_residual-in_err-ask.ensures.1
    (no_names (meant_given c.args.given.now).files c.in_ok-no_file.ensures.none) c.in_ok-kind.ensures.kind c.in_ok-kind.ensures.fault c.in_ok-unneeded.ensures c.in_err-ask.ensures.fault

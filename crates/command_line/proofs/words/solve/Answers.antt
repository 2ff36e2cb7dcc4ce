use Rattle.std.proofs.Common.{refl}
use Rattle.command_line.specs.Given.{meant_given}
use Rattle.command_line.specs.Options.{solving}
use Rattle.command_line.proofs.FirstCauses.{ask_exit, one_name}
use Rattle.command_line.proofs.words.solve.Goals as goal

pub returns-in_err-ask-clause-task : goal.returns-in_err-ask-clause-task
returns-in_err-ask-clause-task c =
    ask_exit (solving c.args.kind) (meant_given c.args.given.now) c.args.kind c.in_err-ask.field-0.0 c.from_residual-in_err-ask.result c.from_residual-in_err-ask.ensures.1
    (one_name (meant_given c.args.given.now).files _ c.in_ok-file.ensures.name) refl c.in_ok-unneeded.ensures c.in_ok-form.ensures.fault c.in_err-ask.ensures.fault

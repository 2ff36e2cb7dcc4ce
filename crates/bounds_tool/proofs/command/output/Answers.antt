use Rattle.std.proofs.Common.{◌∙◌, ap, Ok}
use Rattle.bounded_coords.specs.Asked.{asked}
use Rattle.command_line.specs.Tasks.{meant_task}
use Rattle.bounds_tool.specs.Run.{texts}
use Rattle.bounds_tool.proofs.Works.{demonstrated}
use Rattle.bounds_tool.proofs.command.output.Goals as goal

pub returns-in-Demo-clause-output : goal.returns-in-Demo-clause-output
returns-in-Demo-clause-output g c =
    demonstrated (texts c.args.words.now) (g.F.Files.state c.args.files.now) (asked c.in-Demo.ask) c.in-Demo.seed c.in-Demo.count c.demonstrate.result
    (c.in-Ok.ensures.task ∙ ap (λ task. Ok (meant_task task)) c.in-Demo.is) c.demonstrate.ensures.output

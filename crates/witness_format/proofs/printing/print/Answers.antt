use Rattle.witness_format.proofs.SaidAnswers.{printed_spells}
use Rattle.witness_format.proofs.printing.print.Goals as goal

pub returns-in-Ok : goal.returns-in-Ok
returns-in-Ok c = printed_spells c.in-Ok.bytes.items c.args.answer.now c.size.result c.requires c.size.ensures c.in-Ok.ensures

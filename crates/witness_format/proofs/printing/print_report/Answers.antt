use Rattle.std.proofs.Common.{◌∙◌, ap}
use Rattle.witness_format.proofs.SaidAnswers.{said_spells_report, written_at}
use Rattle.witness_format.proofs.printing.print_report.Goals as goal

pub returns-in-Ok : goal.returns-in-Ok
returns-in-Ok c = said_spells_report c.in-Ok.bytes.items c.args.report.now c.requires (c.in-Ok.ensures ∙ ap (λ size. written_at c.args.report.now size) c.full_size.ensures)

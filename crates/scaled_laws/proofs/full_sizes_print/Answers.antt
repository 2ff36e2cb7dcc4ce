-- By the lowest form.
use Rattle.scaled_laws.proofs.ReportLaw.{full_size_prints}
use Rattle.scaled_laws.proofs.full_sizes_print.Goals as goal

pub returns : goal.returns
returns c = full_size_prints

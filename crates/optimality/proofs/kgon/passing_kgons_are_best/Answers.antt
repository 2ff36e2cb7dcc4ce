-- Along the corners of every polygon the area so far is at most the potential.
use Rattle.optimality.proofs.KgonLaw.{kgon_law}
use Rattle.optimality.proofs.kgon.passing_kgons_are_best.Goals as goal

pub returns : goal.returns
returns c = kgon_law

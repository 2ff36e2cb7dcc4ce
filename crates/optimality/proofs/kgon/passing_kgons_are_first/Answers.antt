-- A list before it would begin earlier, end earlier, or pass over one of its corners.
use Rattle.optimality.proofs.FirstKgonLaw.{kgon_first_law}
use Rattle.optimality.proofs.kgon.passing_kgons_are_first.Goals as goal

pub returns : goal.returns
returns c = kgon_first_law

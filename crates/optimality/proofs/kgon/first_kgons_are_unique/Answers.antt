use Rattle.optimality.proofs.FirstsUnique.{kgons_unique}
use Rattle.optimality.proofs.kgon.first_kgons_are_unique.Goals as goal

pub returns : goal.returns
returns c = kgons_unique

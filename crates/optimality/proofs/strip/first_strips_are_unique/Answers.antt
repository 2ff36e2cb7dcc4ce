use Rattle.optimality.proofs.FirstsUnique.{strips_unique}
use Rattle.optimality.proofs.strip.first_strips_are_unique.Goals as goal

pub returns : goal.returns
returns c = strips_unique

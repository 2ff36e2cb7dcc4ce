-- Every centre gives the balanced pairs the same mean.
use Rattle.optimality.proofs.AnnulusLaw.{annulus_law}
use Rattle.optimality.proofs.annulus.passing_annuli_are_best.Goals as goal

pub returns : goal.returns
returns c = annulus_law

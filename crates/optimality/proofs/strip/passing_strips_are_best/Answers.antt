-- The normal of every strip lies, up to sign, in a cone of the fan.
use Rattle.optimality.proofs.StripLaw.{strip_law}
use Rattle.optimality.proofs.strip.passing_strips_are_best.Goals as goal

pub returns : goal.returns
returns c = strip_law

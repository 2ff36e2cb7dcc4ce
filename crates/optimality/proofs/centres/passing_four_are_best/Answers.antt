-- Smaller squares would lead to a height with a leaf without two far points.
use Rattle.optimality.proofs.FourLaw.{four_law}
use Rattle.optimality.proofs.centres.passing_four_are_best.Goals as goal

pub returns : goal.returns
returns c = four_law

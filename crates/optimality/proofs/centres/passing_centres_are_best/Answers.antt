-- Smaller squares would lead to a leaf without two far points.
use Rattle.optimality.proofs.CentresLaw.{centres_law}
use Rattle.optimality.proofs.centres.passing_centres_are_best.Goals as goal

pub returns : goal.returns
returns c = centres_law

-- A strip before it is thicker, by the cone that its normal lies in.
use Rattle.optimality.proofs.FirstStripLaw.{strip_first_law}
use Rattle.optimality.proofs.strip.passing_strips_are_first.Goals as goal

pub returns : goal.returns
returns c = strip_first_law

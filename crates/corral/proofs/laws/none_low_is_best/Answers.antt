use Rattle.corral.proofs.Duality.{none_low_is_best}
use Rattle.corral.proofs.laws.none_low_is_best.Goals as goal

pub returns : goal.returns
returns c = none_low_is_best

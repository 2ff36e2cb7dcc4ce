use Rattle.corral.proofs.Settled.{value_rises}
use Rattle.corral.proofs.laws.value_rises.Goals as goal

pub returns : goal.returns
returns c = value_rises

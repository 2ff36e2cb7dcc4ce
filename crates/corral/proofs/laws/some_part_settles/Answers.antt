use Rattle.corral.proofs.Settled.{some_part_settles}
use Rattle.corral.proofs.laws.some_part_settles.Goals as goal

pub returns : goal.returns
returns c = some_part_settles

use Rattle.corral.proofs.Walk.{walk}
use Rattle.corral.proofs.laws.walk_ends_at_supports.Goals as goal

pub returns : goal.returns
returns c = walk

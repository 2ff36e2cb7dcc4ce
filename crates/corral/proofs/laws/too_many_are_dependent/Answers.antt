use Rattle.corral.proofs.TooMany.{too_many_are_dependent}
use Rattle.corral.proofs.laws.too_many_are_dependent.Goals as goal

pub returns : goal.returns
returns c = too_many_are_dependent

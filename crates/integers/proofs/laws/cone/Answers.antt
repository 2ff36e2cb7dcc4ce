use Rattle.integers.proofs.Cone.{cone_of_forms}
use Rattle.integers.proofs.laws.cone.Goals as goal

pub returns : goal.returns
returns c = cone_of_forms

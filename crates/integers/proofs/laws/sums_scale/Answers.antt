use Rattle.integers.proofs.Sums.{total-scale}
use Rattle.integers.proofs.laws.sums_scale.Goals as goal

pub returns : goal.returns
returns c = total-scale

use Rattle.integers.proofs.Extremes.{least_reached, above_least}
use Rattle.integers.proofs.laws.least_is_reached.Goals as goal

pub returns : goal.returns
returns c = λ f s h. (least_reached f s h, above_least f s)

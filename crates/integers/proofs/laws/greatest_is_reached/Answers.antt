use Rattle.integers.proofs.Extremes.{greatest_reached, below_greatest}
use Rattle.integers.proofs.laws.greatest_is_reached.Goals as goal

pub returns : goal.returns
returns c = λ f s h. (greatest_reached f s h, below_greatest f s)

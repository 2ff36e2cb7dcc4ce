use Rattle.integers.proofs.LeastDifferences.{fraction_difference}
use Rattle.integers.proofs.laws.fractions_lie_apart.Goals as goal

pub returns : goal.returns
returns c = fraction_difference

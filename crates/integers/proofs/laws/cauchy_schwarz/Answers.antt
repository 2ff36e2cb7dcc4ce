use Rattle.integers.proofs.Lagrange.{cauchy_schwarz_space}
use Rattle.integers.proofs.laws.cauchy_schwarz.Goals as goal

pub returns : goal.returns
returns c = cauchy_schwarz_space

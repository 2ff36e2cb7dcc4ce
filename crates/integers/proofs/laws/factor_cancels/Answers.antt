use Rattle.integers.proofs.Order.{le_of_mul_le}
use Rattle.integers.proofs.laws.factor_cancels.Goals as goal

pub returns : goal.returns
returns c = λ k a b. le_of_mul_le {a = a} {b = b} k

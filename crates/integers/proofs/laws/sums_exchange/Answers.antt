use Rattle.integers.proofs.Sums.{total-exchange}
use Rattle.integers.proofs.laws.sums_exchange.Goals as goal

pub returns : goal.returns
returns c = total-exchange

use Rattle.integers.proofs.Sums.{total-append}
use Rattle.integers.proofs.laws.sums_append.Goals as goal

pub returns : goal.returns
returns c = total-append

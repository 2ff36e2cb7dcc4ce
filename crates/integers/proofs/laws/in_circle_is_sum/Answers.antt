use Rattle.integers.proofs.Circles.{in_circle_sum}
use Rattle.integers.proofs.laws.in_circle_is_sum.Goals as goal

pub returns : goal.returns
returns c = in_circle_sum

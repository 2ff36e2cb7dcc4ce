use Rattle.integers.proofs.Circles.{in_sphere_sum}
use Rattle.integers.proofs.laws.in_sphere_is_sum.Goals as goal

pub returns : goal.returns
returns c = in_sphere_sum

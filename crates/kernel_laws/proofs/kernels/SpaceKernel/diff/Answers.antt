use Rattle.std.proofs.Common.{arith}
use Rattle.std.proofs.lemmas.Int.{ints}
use Rattle.kernel_laws.proofs.Points.{same_point}
use Rattle.kernel_laws.proofs.kernels.SpaceKernel.diff.Goals as goal

pub returns-clause-value : goal.returns-clause-value
returns-clause-value c = same_point (omega (arith, ints, c.x.ensures.value, c.x-2.ensures.value, c.x.ensures.bounds, c.x-2.ensures.bounds)) (omega (arith, ints, c.y.ensures.value, c.y-2.ensures.value, c.y.ensures.bounds, c.y-2.ensures.bounds)) (omega (arith, ints, c.z.ensures.value, c.z-2.ensures.value, c.z.ensures.bounds, c.z-2.ensures.bounds))

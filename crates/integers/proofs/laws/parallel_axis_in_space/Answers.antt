use Rattle.integers.proofs.ParallelAxis.{parallel_axis_space}
use Rattle.integers.proofs.laws.parallel_axis_in_space.Goals as goal

pub returns : goal.returns
returns c = parallel_axis_space

use Rattle.integers.proofs.ParallelAxis.{parallel_axis_plane}
use Rattle.integers.proofs.laws.parallel_axis_in_plane.Goals as goal

pub returns : goal.returns
returns c = parallel_axis_plane

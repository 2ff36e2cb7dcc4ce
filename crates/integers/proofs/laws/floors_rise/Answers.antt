use Rattle.integers.proofs.LeastDifferences.{floor_rises}
use Rattle.integers.proofs.laws.floors_rise.Goals as goal

pub returns : goal.returns
returns c = floor_rises

use Rattle.corral.proofs.Measure.{measure_falls}
use Rattle.corral.proofs.laws.measure_falls.Goals as goal

pub returns : goal.returns
returns c = measure_falls

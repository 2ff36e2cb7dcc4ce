-- Two best answers have the same size.
use Rattle.model_laws.proofs.SizeLaw.{one_optimum}
use Rattle.model_laws.proofs.laws.optimum_is_unique.Goals as goal

pub returns : goal.returns
returns c = one_optimum

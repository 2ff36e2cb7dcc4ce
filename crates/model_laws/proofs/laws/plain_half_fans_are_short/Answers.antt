-- A direction in lowest terms is no longer than the edge that calls for it.
use Rattle.model_laws.proofs.ShortDirections.{half_is_short}
use Rattle.model_laws.proofs.laws.plain_half_fans_are_short.Goals as goal

pub returns : goal.returns
returns c = half_is_short

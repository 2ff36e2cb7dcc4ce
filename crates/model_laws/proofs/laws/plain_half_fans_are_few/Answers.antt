-- Each edge calls for one direction between the ends at most.
use Rattle.model_laws.proofs.PlainFanLaw.{half_is_few}
use Rattle.model_laws.proofs.laws.plain_half_fans_are_few.Goals as goal

pub returns : goal.returns
returns c = half_is_few

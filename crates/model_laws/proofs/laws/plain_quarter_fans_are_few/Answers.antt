-- Each edge calls for one direction between the ends at most.
use Rattle.model_laws.proofs.PlainFanLaw.{quarter_is_few}
use Rattle.model_laws.proofs.laws.plain_quarter_fans_are_few.Goals as goal

pub returns : goal.returns
returns c = quarter_is_few

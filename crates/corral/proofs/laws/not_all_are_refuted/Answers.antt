use Rattle.corral.proofs.Settled.{not_all_are_refuted}
use Rattle.corral.proofs.laws.not_all_are_refuted.Goals as goal

pub returns : goal.returns
returns c = not_all_are_refuted

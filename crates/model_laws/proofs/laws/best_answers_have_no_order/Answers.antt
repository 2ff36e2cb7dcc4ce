-- The same objects fit the points in another order.
use Rattle.model_laws.proofs.OrderLaw.{best_stays}
use Rattle.model_laws.proofs.laws.best_answers_have_no_order.Goals as goal

pub returns : goal.returns
returns c = best_stays

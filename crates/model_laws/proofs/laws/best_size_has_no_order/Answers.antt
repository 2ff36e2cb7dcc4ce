-- Each object that fits the points fits them in another order, or has one of its size there.
use Rattle.model_laws.proofs.SizeLaw.{one_size}
use Rattle.model_laws.proofs.laws.best_size_has_no_order.Goals as goal

pub returns : goal.returns
returns c = one_size

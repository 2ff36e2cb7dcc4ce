-- Points are in the order of themselves.
use Rattle.model_laws.proofs.SizeLaw.{one_size_of_same}
use Rattle.model_laws.proofs.laws.best_size_is_unique.Goals as goal

pub returns : goal.returns
returns c = one_size_of_same

-- The least point is the first, and after each corner only one point can come next.
use Rattle.model_laws.proofs.CornersUnique.{one_list_of_corners}
use Rattle.model_laws.proofs.laws.corners_are_unique.Goals as goal

pub returns : goal.returns
returns c = one_list_of_corners

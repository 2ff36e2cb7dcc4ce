-- A polygon's corners are named by numbers of points.
use Rattle.model_laws.proofs.CornerLaw.{passing_kgon}
use Rattle.model_laws.proofs.laws.passing_kgons_list_corners.Goals as goal

pub returns : goal.returns
returns c = passing_kgon

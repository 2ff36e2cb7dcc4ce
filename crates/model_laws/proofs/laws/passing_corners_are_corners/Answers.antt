-- The corners that a checker accepts do not repeat: seen from the first, each is to the left of the one before.
use Rattle.model_laws.proofs.CornerLaw.{passing_corners}
use Rattle.model_laws.proofs.laws.passing_corners_are_corners.Goals as goal

pub returns : goal.returns
returns c = passing_corners

-- Every difference of the hulls has a product with the sum vector of at least the pairs' own.
use Rattle.optimality.proofs.DistanceLaw.{distance_law}
use Rattle.optimality.proofs.distance.passing_distances_are_best.Goals as goal

pub returns : goal.returns
returns c = distance_law

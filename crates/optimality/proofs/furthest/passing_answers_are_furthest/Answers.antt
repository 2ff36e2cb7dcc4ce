-- Some corner is at least as far from a point as any other point is.
use Rattle.optimality.proofs.FurthestLaw.{passing_furthest}
use Rattle.optimality.proofs.furthest.passing_answers_are_furthest.Goals as goal

pub returns : goal.returns
returns c = passing_furthest

-- Weights on the supports bound the squared radius of every circle.
use Rattle.optimality.proofs.BallLaws.{circle_law}
use Rattle.optimality.proofs.circle.passing_circles_are_best.Goals as goal

pub returns : goal.returns
returns c = circle_law

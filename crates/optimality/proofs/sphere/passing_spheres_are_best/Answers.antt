-- Weights on the supports bound the squared radius of every sphere.
use Rattle.optimality.proofs.BallLaws.{sphere_law}
use Rattle.optimality.proofs.sphere.passing_spheres_are_best.Goals as goal

pub returns : goal.returns
returns c = sphere_law

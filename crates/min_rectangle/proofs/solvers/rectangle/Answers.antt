use Rattle.bounded_coords.specs.Clouds.{points_of}
use Rattle.answers.specs.Answers.{rectangle_of}
use Rattle.min_rectangle.proofs.solvers.rectangle.Goals as goal

pub returns-clause-first : goal.returns-clause-first
returns-clause-first g c = c.passing_rectangles_are_first.ensures (points_of c.args.cloud) (rectangle_of c.rectangle_of_fan.result) c.rectangle_of_fan.ensures

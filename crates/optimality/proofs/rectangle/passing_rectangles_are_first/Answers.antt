-- A rectangle before it is larger, by the cone that its direction lies in.
use Rattle.optimality.proofs.FirstRectangleLaw.{rectangle_first_law}
use Rattle.optimality.proofs.rectangle.passing_rectangles_are_first.Goals as goal

pub returns : goal.returns
returns c = rectangle_first_law

-- The direction of every rectangle lies, up to quarter turns, in a cone of the fan.
use Rattle.optimality.proofs.RectangleLaw.{rectangle_law}
use Rattle.optimality.proofs.rectangle.passing_rectangles_are_best.Goals as goal

pub returns : goal.returns
returns c = rectangle_law

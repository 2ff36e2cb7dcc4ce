use Rattle.optimality.proofs.FirstsUnique.{rectangles_unique}
use Rattle.optimality.proofs.rectangle.first_rectangles_are_unique.Goals as goal

pub returns : goal.returns
returns c = rectangles_unique

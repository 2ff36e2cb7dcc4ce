-- Every empty rectangle lies in a gap between two heights.
use Rattle.optimality.proofs.EmptyLaw.{empty_law}
use Rattle.optimality.proofs.empty_rectangle.passing_empty_rectangles_are_best.Goals as goal

pub returns : goal.returns
returns c = empty_law

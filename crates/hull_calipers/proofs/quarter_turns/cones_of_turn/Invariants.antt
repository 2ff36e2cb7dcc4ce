use Rattle.std.specs.Prelude.{map}
use Rattle.hull_calipers.specs.CornerLists.{corners_in, points_in}
use Rattle.answers.specs.Answers.{quarter_cone_of}
use Rattle.hull_calipers.proofs.QuarterTurns.{IsQuarterTurning, quarter_left}
use Rattle.hull_calipers.proofs.quarter_turns.cones_of_turn.Given as goal

abbrev pub invariant-directions : goal.invariant-directions
invariant-directions g l = IsQuarterTurning (points_in l.corners) (corners_in l.corners) (record { right = l.right; left = 0; top = l.top; bottom = l.bottom }) l.direction l.along l.across (map quarter_cone_of l.cones) l.steps l.fn.steps

abbrev pub decreases-directions : goal.decreases-directions
decreases-directions g l = quarter_left (corners_in l.corners) (record { right = l.right; left = 0; top = l.top; bottom = l.bottom }) l.direction l.along l.across

use Rattle.std.proofs.Common.{◌+◌, length}
use Prim.Native.Nat.{min}
use Rattle.std.specs.Prelude.{map}
use Rattle.hull_calipers.specs.CornerLists.{corners_in, points_in}
use Rattle.answers.specs.Answers.{half_cone_of}
use Rattle.hull_calipers.proofs.AntipodalPairs.{left_of}
use Rattle.hull_calipers.proofs.HalfTurns.{IsHalfTurning}
use Rattle.hull_calipers.proofs.half_turns.add_cones.Given as goal

abbrev pub invariant-directions : goal.invariant-directions
invariant-directions g l = IsHalfTurning (points_in l.corners) (corners_in l.corners) l.side l.high_at l.low_at l.direction l.pair (map half_cone_of l.cones) (length l.fn.cones) l.steps l.fn.steps

abbrev pub decreases-directions : goal.decreases-directions
decreases-directions g l = left_of (corners_in l.corners) l.high_at l.low_at l.pair + min l.direction.x 1

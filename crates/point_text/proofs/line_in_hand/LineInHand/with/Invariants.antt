use Rattle.std.proofs.Common.{length}
use Rattle.point_text.specs.InHand.{IsLineInHand, Adds}
use Rattle.point_text.proofs.line_in_hand.LineInHand.with.Given as goal

abbrev pub invariant-bytes : goal.invariant-bytes
invariant-bytes l = Adds IsLineInHand l.fn.self l.line l.part l.rest

abbrev pub decreases-bytes : goal.decreases-bytes
decreases-bytes l = length l.rest

use Rattle.corner_squares.specs.Covers.{IsFilledUp}
use Rattle.corner_squares.proofs.answer_squares.filled_up.Given as goal

abbrev pub invariant-loop-i : goal.invariant-loop-i
invariant-loop-i g l = IsFilledUp l._i l.fn.squares.items l.filled.items

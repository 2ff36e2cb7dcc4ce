use Rattle.point_text.specs.InHand.{IsLineInHand}
use Rattle.point_text.proofs.Runs.{adds_none, adds_to_line}
use Rattle.point_text.proofs.line_in_hand.LineInHand.with_digits.Goals as goal

pub returns-in-Open : goal.returns-in-Open
returns-in-Open c = rw c.in-Open.is (adds_to_line c.in-Open.content c.with_digits.result.0 c.args.text.now c.with_digits.result.1.now c.with_digits.ensures)

pub returns-in_default : goal.returns-in_default
returns-in_default c = adds_none IsLineInHand c.args.self c.args.text.now

use Rattle.point_text.specs.InHand.{IsFieldInHand}
use Rattle.point_text.proofs.Runs.{adds_none, adds_digits}
use Rattle.point_text.proofs.field_in_hand.FieldInHand.with_digits.Goals as goal

pub returns-in-Digits : goal.returns-in-Digits
returns-in-Digits c =
    let digits = c.in-Digits in
    let cut = c.cut_digits-size in
    rw digits.is (adds_digits digits.sign digits.size c.min.result cut.result.0 c.args.text.now cut.result.1.now c.min.ensures cut.ensures)

pub returns-in_default : goal.returns-in_default
returns-in_default c = adds_none IsFieldInHand c.args.self c.args.text.now

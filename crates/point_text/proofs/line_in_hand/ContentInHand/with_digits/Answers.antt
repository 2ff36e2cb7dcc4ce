use Rattle.point_text.proofs.Runs.{adds_to_content}
use Rattle.point_text.proofs.line_in_hand.ContentInHand.with_digits.Goals as goal

pub returns : goal.returns
returns c = adds_to_content c.args.self c.with_digits-field.result.0 c.args.text.now c.with_digits-field.result.1.now c.with_digits-field.ensures

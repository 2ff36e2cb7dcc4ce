use Rattle.point_text.proofs.Bytewise.{other_field}
use Rattle.point_text.proofs.field_in_hand.FieldInHand.end.Goals as goal

pub returns-in_default : goal.returns-in_default
returns-in_default c bytes is = other_field c.args.self bytes is c.in_default.not-Digits c.in_default.not-Word

use Rattle.std.proofs.Common.{◌∙◌, sym}
use Rattle.point_text.proofs.Bytewise.{number_unknown, unwritten}
use Rattle.point_text.proofs.fields.signed_digits.Goals as goal

pub returns-in-None : goal.returns-in-None
returns-in-None c =
    let parts = c.parted_sign-sign.ensures in
    let none = unwritten c.parted_sign-sign.result.1.now (sym c.digits_size.ensures.value ∙ c.in-None.is) in
    number_unknown c.parted_sign-sign.result.0 c.args.bytes.now c.parted_sign-sign.result.1.now parts.parts parts.plain none

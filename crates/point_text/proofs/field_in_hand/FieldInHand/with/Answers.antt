use Rattle.std.proofs.Common.{◌∷◌, ◌++◌, ◌∙◌, [], ap, append_assoc}
use Rattle.point_text.specs.Fields.{sign_bytes}
use Rattle.point_text.proofs.Bytewise.{write_one, write_more, other_digits}
use Rattle.point_text.proofs.field_in_hand.FieldInHand.with.Goals as goal

pub returns-in-Some : goal.returns-in-Some
returns-in-Some c bytes is =
    let plus = rw c.in-Plus.is at is in
    let digit = c.in-Some.ensures in
    (c.args.byte ∷ [], ap (λ bs. bs ++ c.args.byte ∷ []) plus, write_one c.args.byte c.in-Some.digit digit.0 digit.1 digit.2)

pub returns-in-Some-digit : goal.returns-in-Some-digit
returns-in-Some-digit c bytes is =
    let (digits, form, write) = rw c.in-Digits.is at is in
    let digit = c.in-Some-digit.ensures in
    let more = write_more digits c.in-Digits.size c.args.byte c.in-Some-digit.digit write digit.0 digit.1 digit.2 in
    (digits ++ c.args.byte ∷ [], ap (λ bs. bs ++ c.args.byte ∷ []) form ∙ append_assoc (sign_bytes c.in-Digits.sign) digits (c.args.byte ∷ []), rw c.with_digit.ensures more)

pub returns-in-None-digit : goal.returns-in-None-digit
returns-in-None-digit c bytes is =
    let (digits, form, write) = rw c.in-Digits.is at is in
    let whole = ap (λ bs. bs ++ c.args.byte ∷ []) form ∙ append_assoc (sign_bytes c.in-Digits.sign) digits (c.args.byte ∷ []) in
    rw whole (other_digits c.in-Digits.sign digits c.in-Digits.size c.args.byte write c.in-None-digit.ensures)

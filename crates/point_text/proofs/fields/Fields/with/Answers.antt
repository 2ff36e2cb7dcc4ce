use Rattle.std.proofs.Common.{◌≡◌, ◌∙◌, ap, sym, rules, Some, SFits, w64}
use Rattle.std.proofs.lemmas.Int.{to_z-of_z}
use Rattle.point_text.specs.Fields.{clamped_number}
use Rattle.point_text.proofs.Bytewise.{signed_number}
use Rattle.point_text.proofs.FieldLaws.{not_number, numbers_more, bad_behind_one, bad_behind_two, bad_behind}
use Rattle.point_text.proofs.fields.Fields.with.Goals as goal

pub returns-in-Number-field : goal.returns-in-Number-field
returns-in-Number-field c line next are is =
    let (digits, same, write) = rw c.in-Number-field.is at is in
    let number : clamped_number next ≡ Some c.signed-in-Number-field.result = signed_number c.in-Number-field.sign c.in-Number-field.size next digits same write ∙ ap Some (sym c.signed-in-Number-field.ensures) in
    let fits_x : SFits w64 c.in-One.x = search rules in
    let fits_y : SFits w64 c.signed-in-Number-field.result = search rules in
    simp to_z-of_z (numbers_more line next _ _ (rw c.in-One.is at are) number)

pub returns-in_default-field : goal.returns-in_default-field
returns-in_default-field c line next are is = bad_behind_one line next _ (rw c.in-One.is at are) (not_number c.args.field next is c.in_default-field.not-Number)

pub returns-in-Number-field-2 : goal.returns-in-Number-field-2
returns-in-Number-field-2 c line next are is =
    let (digits, same, write) = rw c.in-Number-field-2.is at is in
    let number : clamped_number next ≡ Some c.signed-in-Number-field-2.result = signed_number c.in-Number-field-2.sign c.in-Number-field-2.size next digits same write ∙ ap Some (sym c.signed-in-Number-field-2.ensures) in
    let fits_x : SFits w64 c.in-Two.x = search rules in
    let fits_y : SFits w64 c.in-Two.y = search rules in
    let fits_z : SFits w64 c.signed-in-Number-field-2.result = search rules in
    simp to_z-of_z (numbers_more line next _ _ (rw c.in-Two.is at are) number)

pub returns-in_default-field-2 : goal.returns-in_default-field-2
returns-in_default-field-2 c line next are is = bad_behind_two line next _ _ (rw c.in-Two.is at are) (not_number c.args.field next is c.in_default-field-2.not-Number)

pub returns-in_default : goal.returns-in_default
returns-in_default c line next are is = bad_behind c.args.self line next are c.in_default.not-Empty c.in_default.not-Word c.in_default.not-One c.in_default.not-Two

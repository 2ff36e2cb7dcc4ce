use Rattle.std.proofs.Common.{ap, map, subst, [], ◌∷◌, Some, SFits, w64, rules}
use Rattle.std.proofs.lemmas.Int.{to_z-of_z}
use Rattle.bounds_model.specs.PointText.{number, fields_of, space_meaning}
use Rattle.point_text.specs.Lines.{Means, numbers_of, uncommented}
use Rattle.point_text.proofs.Clamping.{three_numbers}
use Rattle.point_text.proofs.LeadingFields.{space_more}
use Rattle.point_text.proofs.line.Point3TextPoint.read_fields.Goals as goal

pub returns-then-has_field : goal.returns-then-has_field
returns-then-has_field c =
    let x = c.in-Some.ensures in
    let y = c.in-Some-next_number.ensures in
    let z = c.in-Some-next_number-2.ensures in
    space_more (numbers_of (uncommented c.args.line.now)) (numbers_of (uncommented c.in-Some.rest.now)) (numbers_of (uncommented c.in-Some-next_number.rest.now))
    (fields_of (uncommented c.in-Some-next_number-2.rest.now)) x.0 y.0 z.0 x.2 y.2 z.2 (c.has_field.ensures.yes c.if-has_field.true)

pub returns : goal.returns
returns c =
    let x = c.in-Some.ensures in
    let y = c.in-Some-next_number.ensures in
    let z = c.in-Some-next_number-2.ensures in
    let fits_x : SFits w64 c.in-Some.x = search rules in
    let fits_y : SFits w64 c.in-Some-next_number.y = search rules in
    let fits_z : SFits w64 c.in-Some-next_number-2.z = search rules in
    let said : Means c.space_line.result (space_meaning (Some c.in-Some.x ∷ Some c.in-Some-next_number.y ∷ Some c.in-Some-next_number-2.z ∷ [])) = simp to_z-of_z at c.space_line.ensures in
    subst (Means c.space_line.result)
    (three_numbers c.in-Some.x c.in-Some-next_number.y c.in-Some-next_number-2.z x.0 y.0 z.0 (numbers_of (uncommented c.args.line.now)) (numbers_of (uncommented c.in-Some.rest.now))
    (numbers_of (uncommented c.in-Some-next_number.rest.now)) (numbers_of (uncommented c.in-Some-next_number-2.rest.now)) x.1 x.2 y.1 y.2 z.1 z.2
    (ap (map number) (c.has_field.ensures.no c.if-has_field.false)))
    said

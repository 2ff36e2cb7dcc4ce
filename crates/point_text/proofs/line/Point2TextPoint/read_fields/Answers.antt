use Rattle.std.proofs.Common.{subst, [], ◌∷◌, Some, SFits, w64, rules}
use Rattle.std.proofs.lemmas.Int.{to_z-of_z}
use Rattle.bounds_model.specs.PointText.{fields_of, plane_meaning}
use Rattle.point_text.specs.Lines.{Means, numbers_of, uncommented}
use Rattle.point_text.proofs.LeadingFields.{plane_more, plane_done}
use Rattle.point_text.proofs.line.Point2TextPoint.read_fields.Goals as goal

pub returns-then-has_field : goal.returns-then-has_field
returns-then-has_field c =
    let x = c.in-Some.ensures in
    let y = c.in-Some-next_number.ensures in
    plane_more (numbers_of (uncommented c.args.line.now)) (numbers_of (uncommented c.in-Some.rest.now)) (fields_of (uncommented c.in-Some-next_number.rest.now)) x.0 y.0 x.2 y.2 (c.has_field.ensures.yes c.if-has_field.true)

pub returns : goal.returns
returns c =
    let x = c.in-Some.ensures in
    let y = c.in-Some-next_number.ensures in
    let fits_x : SFits w64 c.in-Some.x = search rules in
    let fits_y : SFits w64 c.in-Some-next_number.y = search rules in
    let said : Means c.plane_line.result (plane_meaning (Some c.in-Some.x ∷ Some c.in-Some-next_number.y ∷ [])) = simp to_z-of_z at c.plane_line.ensures in
    subst (Means c.plane_line.result)
    (plane_done (numbers_of (uncommented c.args.line.now)) (numbers_of (uncommented c.in-Some.rest.now)) (fields_of (uncommented c.in-Some-next_number.rest.now)) c.in-Some.x c.in-Some-next_number.y x.0 y.0 x.1 x.2 y.1 y.2
    (c.has_field.ensures.no c.if-has_field.false))
    said

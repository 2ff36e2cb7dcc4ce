use Rattle.std.proofs.Common.{◌≡◌, sym, subst, [], ◌∷◌, Some, SFits, w64, rules}
use Rattle.std.proofs.lemmas.Int.{to_z-of_z}
use Rattle.bounds_model.specs.PointText.{fields_meaning, plane_meaning}
use Rattle.point_text.specs.Fields.{letters}
use Rattle.point_text.specs.Lines.{Means}
use Rattle.point_text.proofs.Points.{plane_two, plane_other}
use Rattle.point_text.proofs.line.Point2TextPoint.say.Goals as goal

pub returns-in-Two : goal.returns-in-Two
returns-in-Two c line are =
    let fits_x : SFits w64 c.in-Two.x = search rules in
    let fits_y : SFits w64 c.in-Two.y = search rules in
    let said : Means c.plane_line.result (plane_meaning (Some c.in-Two.x ∷ Some c.in-Two.y ∷ [])) = simp to_z-of_z at c.plane_line.ensures in
    subst (Means c.plane_line.result) (plane_two line _ _ (rw c.in-Two.is at are)) said

pub returns-in-Word : goal.returns-in-Word
returns-in-Word c line are =
    let same : line ≡ letters c.in-Word.word ∷ [] = rw c.in-Word.is at are in
    subst (λ fields. Means c.word_line.result (fields_meaning plane_meaning fields)) (sym same) (c.word_line.ensures plane_meaning)

pub returns-in_default : goal.returns-in_default
returns-in_default c line are = plane_other c.args.fields line are c.in_default.not-Empty c.in_default.not-Word c.in_default.not-Scale c.in_default.not-Two

use Rattle.std.proofs.Common.{◌≡◌, sym, subst, [], ◌∷◌, Some, SFits, w64, rules}
use Rattle.std.proofs.lemmas.Int.{to_z-of_z}
use Rattle.bounds_model.specs.PointText.{fields_meaning, space_meaning}
use Rattle.point_text.specs.Fields.{letters}
use Rattle.point_text.specs.Lines.{Means}
use Rattle.point_text.proofs.Points.{space_three, space_other}
use Rattle.point_text.proofs.line.Point3TextPoint.say.Goals as goal

pub returns-in-Three : goal.returns-in-Three
returns-in-Three c line are =
    let fits_x : SFits w64 c.in-Three.x = search rules in
    let fits_y : SFits w64 c.in-Three.y = search rules in
    let fits_z : SFits w64 c.in-Three.z = search rules in
    let said : Means c.space_line.result (space_meaning (Some c.in-Three.x ∷ Some c.in-Three.y ∷ Some c.in-Three.z ∷ [])) = simp to_z-of_z at c.space_line.ensures in
    subst (Means c.space_line.result) (space_three line _ _ _ (rw c.in-Three.is at are)) said

pub returns-in-Word : goal.returns-in-Word
returns-in-Word c line are =
    let same : line ≡ letters c.in-Word.word ∷ [] = rw c.in-Word.is at are in
    subst (λ fields. Means c.word_line.result (fields_meaning space_meaning fields)) (sym same) (c.word_line.ensures space_meaning)

pub returns-in_default : goal.returns-in_default
returns-in_default c line are = space_other c.args.fields line are c.in_default.not-Empty c.in_default.not-Word c.in_default.not-Scale c.in_default.not-Three

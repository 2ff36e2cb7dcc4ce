use Rattle.std.proofs.Common.{◌∙◌, sym, ap, subst}
use Rattle.point_text.specs.Files.{file_of_fields}
use Rattle.point_text.specs.Judged.{plane_meanings, space_meanings}
use Rattle.point_text.specs.Refusals.{Answers}
use Rattle.point_text.proofs.Judging.{plane_called, space_called}
use Rattle.point_text.proofs.judgement.Judgement.end.Goals as goal

pub returns-in-Plane-clause-sets : goal.returns-in-Plane-clause-sets
returns-in-Plane-clause-sets c shape lines is =
    let (called, judged) = rw c.in-Plane.is at is in
    let file = ap (λ s. file_of_fields s lines) called ∙ plane_called c.in-Plane.may_be_bare lines in
    subst (Answers c.plane_file.result) (sym file) (c.plane_file.ensures.sets (plane_meanings lines) judged)

pub returns-in-Space-clause-sets : goal.returns-in-Space-clause-sets
returns-in-Space-clause-sets c shape lines is =
    let (called, judged) = rw c.in-Space.is at is in
    let file = ap (λ s. file_of_fields s lines) called ∙ space_called c.in-Space.are_two lines in
    subst (Answers c.space_file.result) (sym file) (c.space_file.ensures.sets (space_meanings lines) judged)

use Rattle.std.proofs.Common.{sym, ap, ◌∙◌, of_z, w32, SFits, rules}
use Rattle.std.proofs.lemmas.Bool.{eqb-true}
use Rattle.empty_rectangle.specs.Points.{points_in}
use Rattle.empty_check.proofs.Blocking.{same_coordinate, level_at, level_through}
use Rattle.empty_check.proofs.empty_rectangles.rests_level.Goals as goal

pub returns-then-y : goal.returns-then-y
returns-then-y c =
    let fits : SFits w32 c.y.result = search rules in
    let fits_y : SFits w32 c.args.y = search rules in
    level_at (points_in c.args.cloud) c.args.by c.in-Point.number c.args.frame_y c.args.y c.args.rectangle.left c.args.rectangle.right c.point-p.result.now c.in-Point.is c.point-p.ensures
    (sym c.y.ensures.value ∙ same_coordinate fits fits_y c.if-y.true) c.is_across.ensures

pub returns-else-y : goal.returns-else-y
returns-else-y c = (
  λ yes. absurd (c.if-y.false (eqb-true _ _ yes)),
  λ blocks. absurd (c.if-y.false (ap (of_z w32) (c.y.ensures.value ∙ level_through (points_in c.args.cloud) c.args.by c.in-Point.number c.args.frame_y c.args.y c.args.rectangle.left c.args.rectangle.right c.point-p.result.now c.in-Point.is c.point-p.ensures blocks))),
)

use Rattle.std.proofs.Common.{sym, ap, ◌∙◌, of_z, w32, SFits, rules}
use Rattle.std.proofs.lemmas.Bool.{eqb-true}
use Rattle.empty_rectangle.specs.Points.{points_in}
use Rattle.empty_check.proofs.Blocking.{same_coordinate, vertical_at, vertical_through}
use Rattle.empty_check.proofs.empty_rectangles.rests_vertical.Goals as goal

pub returns-then-x : goal.returns-then-x
returns-then-x c =
    let fits : SFits w32 c.x.result = search rules in
    let fits_x : SFits w32 c.args.x = search rules in
    vertical_at (points_in c.args.cloud) c.args.by c.in-Point.number c.args.frame_x c.args.x c.args.rectangle.bottom c.args.rectangle.top c.point-p.result.now c.in-Point.is c.point-p.ensures
    (sym c.x.ensures.value ∙ same_coordinate fits fits_x c.if-x.true) c.is_along.ensures

pub returns-else-x : goal.returns-else-x
returns-else-x c = (
  λ yes. absurd (c.if-x.false (eqb-true _ _ yes)),
  λ blocks. absurd (c.if-x.false (ap (of_z w32) (c.x.ensures.value ∙ vertical_through (points_in c.args.cloud) c.args.by c.in-Point.number c.args.frame_x c.args.x c.args.rectangle.bottom c.args.rectangle.top c.point-p.result.now c.in-Point.is c.point-p.ensures blocks))),
)

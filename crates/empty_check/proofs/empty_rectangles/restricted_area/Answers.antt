use Rattle.std.proofs.Common.{◌∙◌, ap, subst, ◌<◌, ◌^◌, arith}
use Rattle.bounds_model.specs.EmptyRectangle.{area}
use Rattle.bounds_model.specs.EmptyAnswer.{EmptyAnswer, IsEmpty, AreBlocked}
use Rattle.answers.specs.Answers.{empty_of}
use Rattle.empty_rectangle.specs.Points.{points_in}
use Rattle.integers.proofs.Lists.{clash}
use Rattle.empty_check.proofs.RectanglePassing.{area_printed, area_valued}
use Rattle.empty_check.proofs.empty_rectangles.restricted_area.Goals as goal

pub returns-then-not-is_area : goal.returns-then-not-is_area
returns-then-not-is_area c = λ r.
    let below : c.area_of-area.result < 2 ^ 64 = omega arith in
    clash (c.is_area.ensures.1 (area_printed (empty_of c.args.a.now) c.area_of-area.result below (c.area_of-area.ensures ∙ ap area c.in_ok-rectangle.ensures.1) r.size_in_range r.size)) c.if-not-is_area.true

pub returns : goal.returns
returns c =
    let a : EmptyAnswer = empty_of c.args.a.now in
    let points = points_in c.args.cloud in
    let below : c.area_of-area.result < 2 ^ 64 = omega arith in
    let lies = c.in_ok-rectangle.ensures in
    let printed = c.is_area.ensures.0 c.if-not-is_area.false in
    let valued = area_valued a c.area_of-area.result below (c.area_of-area.ensures ∙ ap area lies.1) printed in (
      record {
        size_in_range = valued.0;
        inside = lies.0;
        numbers = c.name_points.ensures.0 c.if-not-name_points.false;
        size = valued.1;
        empty = subst (IsEmpty points) lies.1 (c.is_empty.ensures.0 c.if-not-is_empty.false);
        blocked = subst (λ box. AreBlocked c.args.frame points (record a { box = box })) lies.1 (c.are_blocked.ensures.0 c.if-not-are_blocked.false);
      },
      printed,
    )

use Rattle.std.proofs.Common.{◌≡◌, sym, ◌∙◌, subst, ℕ, ◌<◌, length, below_more, arith}
use Rattle.bounds_model.specs.Plane.{quarter_turn}
use Rattle.bounds_model.specs.Fans as fans
use Rattle.bounds_model.specs.RectangleAnswer.{PassesRectangle}
use Rattle.bounded_coords.specs.Clouds.{points_of}
use Rattle.answers.specs.Answers.{quarter_fan_of, span_of}
use Rattle.directions.proofs.SpanBounds.{AreBounds}
use Rattle.min_rectangle.proofs.Cones.{cones_length, cone_read, is_cone_read}
use Rattle.min_rectangle.proofs.Areas.{IsNotLargerAt, not_larger_there, not_larger_more, one_area, larger_before, rectangle_passes}
use Rattle.min_rectangle.proofs.smallest.rectangle_of_fan.Goals as goal

pub area_at-best-requires : goal.area_at-best-requires
area_at-best-requires c = record { fan = c.requires; listed = omega (arith, c.requires.ranges.count.at_least, cones_length c.args.fan) }

pub area_at-requires : goal.area_at-requires
area_at-requires c = record { fan = c.requires; listed = omega arith }

pub smaller-best-requires : goal.smaller-best-requires
smaller-best-requires c = record {
  a_product = c.loop-j.invariant.best.product_limit;
  a_length = c.loop-j.invariant.best.length_limit;
  b_product = c.area_at.ensures.area.product_limit;
  b_length = c.area_at.ensures.area.length_limit;
}

pub loop-j-init : goal.loop-j-init
loop-j-init c =
    let points = points_of c.args.cloud in
    let fan = quarter_fan_of c.args.fan in
    let first = c.area_at-best.result in
    let here = not_larger_there points fan first first c.area_at-best.ensures.area (omega arith) in
    record {
      best = c.area_at-best.ensures.area;
      before = λ k l. absurd (none k c.area_at-best.ensures.direction l);
      seen = λ k l. subst (IsNotLargerAt points fan first) (c.area_at-best.ensures.direction ∙ zero_is k l) here;
    }
  where
    none : (k : ℕ) {n : ℕ} → n ≡ 0 → k < n → ⊥
    none k e l = omega arith

    zero_is : (k : ℕ) → k < 1 → 0 ≡ k
    zero_is k l = omega arith

pub loop-j-preserved : goal.loop-j-preserved
loop-j-preserved c =
    let points = points_of c.args.cloud in
    let fan = quarter_fan_of c.args.fan in
    let best = c.loop-j.best in
    let next = c.area_at.result in
    let better = c.smaller-best.result in
    let is_better = one_area points fan best next better c.loop-j.invariant.best c.area_at.ensures.area c.smaller-best.ensures.one in
    let here = subst (IsNotLargerAt points fan better) c.area_at.ensures.direction (not_larger_there points fan better next c.area_at.ensures.area c.smaller-best.ensures.not_larger_b) in
    record {
      best = is_better;
      before = larger_before points fan best next better c.loop-j.j c.requires c.loop-j.invariant.best c.area_at.ensures.area c.area_at.ensures.direction c.loop-j.invariant.seen c.loop-j.invariant.before c.smaller-best.ensures.one;
      seen = below_more _ _
          (λ k l. not_larger_more points fan best better k c.requires c.loop-j.invariant.best is_better c.smaller-best.ensures.not_larger_a (omega (arith, c.loop-j-test.true, c.len-j-end.ensures.count, cones_length c.args.fan)) (c.loop-j.invariant.seen k l))
          here;
    }

pub span-requires-clause-direction : goal.span-requires-clause-direction
span-requires-clause-direction c = (is_cone_read (points_of c.args.cloud) c.args.fan c.loop-j.best.direction c.at-cone.result c.requires c.at-cone.ensures).short

pub span-requires-clause-hi : goal.span-requires-clause-hi
span-requires-clause-hi c = (is_cone_read (points_of c.args.cloud) c.args.fan c.loop-j.best.direction c.at-cone.result c.requires c.at-cone.ensures).named.high

pub span-requires-clause-lo : goal.span-requires-clause-lo
span-requires-clause-lo c = (is_cone_read (points_of c.args.cloud) c.args.fan c.loop-j.best.direction c.at-cone.result c.requires c.at-cone.ensures).named.low

pub quarter_turn-requires : goal.quarter_turn-requires
quarter_turn-requires c = (is_cone_read (points_of c.args.cloud) c.args.fan c.loop-j.best.direction c.at-cone.result c.requires c.at-cone.ensures).short

pub span-requires-2-clause-hi : goal.span-requires-2-clause-hi
span-requires-2-clause-hi c = (is_cone_read (points_of c.args.cloud) c.args.fan c.loop-j.best.direction c.at-cone.result c.requires c.at-cone.ensures).named.over

pub span-requires-2-clause-lo : goal.span-requires-2-clause-lo
span-requires-2-clause-lo c = (is_cone_read (points_of c.args.cloud) c.args.fan c.loop-j.best.direction c.at-cone.result c.requires c.at-cone.ensures).named.under

pub returns : goal.returns
returns c =
    let points = points_of c.args.cloud in
    let fan = quarter_fan_of c.args.fan in
    let best = c.loop-j.best in
    let cone = c.at-cone.result in
    let size = c.new.result in
    let along = span_of c.span.result in
    let across = span_of c.span-2.result in
    let is = cone_read c.args.fan best.direction cone c.at-cone.ensures in
    let bounds = subst (λ (x : fans.QuarterCone). AreBounds points x.direction x.high x.low along) is (record { is = c.span.ensures.bounds; short = c.span.ensures.short }) in
    let turned = subst (λ d. AreBounds points d cone.over cone.under across) c.quarter_turn.ensures.value (record { is = c.span-2.ensures.bounds; short = c.span-2.ensures.short }) in
    let bounds_across = subst (λ (x : fans.QuarterCone). AreBounds points (quarter_turn x.direction) x.over x.under across) is turned in
    let all_seen = λ (k : ℕ) (l : k < length fan.cones). c.loop-j.invariant.seen k (omega (arith, l, c.loop-j-test.false, c.len-j-end.ensures.count, cones_length c.args.fan)) in
    subst (λ (x : fans.QuarterCone). PassesRectangle points (record { size = size; direction = x.direction; along = along; across = across; fan = fan })) (sym is)
    (rectangle_passes points fan best size along across c.requires c.loop-j.invariant.best all_seen c.loop-j.invariant.before c.new.ensures.lowest c.new.ensures.value bounds bounds_across)

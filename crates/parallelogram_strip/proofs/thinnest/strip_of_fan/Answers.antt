use Rattle.std.proofs.Common.{◌≡◌, sym, ◌∙◌, subst, ℕ, ◌+◌, ◌<◌, length, below_more, [], ◌∷◌, arith}
use mir.Syntax.{w128}
use Rattle.integers.proofs.UnsignedArithmetic.{limited, with_limited, amounts, amount_fits, amount_within}
use Rattle.bounds_model.specs.Fans as fans
use Rattle.bounds_model.specs.StripAnswer.{PassesStrip}
use Rattle.bounded_coords.specs.Clouds.{points_of}
use Rattle.answers.specs.Answers.{half_fan_of, span_of}
use Rattle.parallelogram_strip.proofs.FullTurn.{full_turn_of}
use Rattle.parallelogram_strip.proofs.ConesRead.{around_first, around_named, around_short, cones_length}
use Rattle.directions.proofs.SpanBounds.{AreBounds}
use Rattle.parallelogram_strip.proofs.Widths.{IsNotThinnerAt, not_thinner_there, thinner_more, one_width, thicker_before, strip_passes}
use Rattle.parallelogram_strip.proofs.thinnest.strip_of_fan.Goals as goal

pub width_at-best-requires : goal.width_at-best-requires
width_at-best-requires c = record { fan = c.requires; listed = omega (arith, c.requires.ranges.count.at_least, cones_length c.args.fan) }

pub width_at-requires : goal.width_at-requires
width_at-requires c = record { fan = c.requires; listed = omega arith }

pub thinner-best-requires : goal.thinner-best-requires
thinner-best-requires c = record {
  a_reach = c.loop-j.invariant.best.reach_limit;
  a_length = c.loop-j.invariant.best.length_limit;
  b_reach = c.width_at.ensures.width.reach_limit;
  b_length = c.width_at.ensures.width.length_limit;
}

pub loop-j-init : goal.loop-j-init
loop-j-init c =
    let points = points_of c.args.cloud in
    let fan = half_fan_of c.args.fan in
    let first = c.width_at-best.result in
    let here = not_thinner_there points fan first first c.width_at-best.ensures.width (omega arith) in
    record {
      best = c.width_at-best.ensures.width;
      before = λ k l. absurd (none k c.width_at-best.ensures.direction l);
      seen = λ k l. subst (IsNotThinnerAt points fan first) (c.width_at-best.ensures.direction ∙ zero_is k l) here;
    }
  where
    none : (k : ℕ) {n : ℕ} → n ≡ 0 → k < n → ⊥
    none k e l = omega arith

    zero_is : (k : ℕ) → k < 1 → 0 ≡ k
    zero_is k l = omega arith

pub loop-j-preserved : goal.loop-j-preserved
loop-j-preserved c =
    let points = points_of c.args.cloud in
    let fan = half_fan_of c.args.fan in
    let turn = full_turn_of points fan c.requires in
    let best = c.loop-j.best in
    let next = c.width_at.result in
    let better = c.thinner-best.result in
    let is_better = one_width points fan best next better c.loop-j.invariant.best c.width_at.ensures.width c.thinner-best.ensures.one in
    let here = subst (IsNotThinnerAt points fan better) c.width_at.ensures.direction (not_thinner_there points fan better next c.width_at.ensures.width c.thinner-best.ensures.not_wider_b) in
    record {
      best = is_better;
      before = thicker_before points fan best next better c.loop-j.j turn c.loop-j.invariant.best c.width_at.ensures.width c.width_at.ensures.direction c.loop-j.invariant.seen c.loop-j.invariant.before c.thinner-best.ensures.one;
      seen = below_more _ _
          (λ k l. thinner_more points fan best better k turn c.loop-j.invariant.best is_better c.thinner-best.ensures.not_wider_a (omega (arith, c.loop-j-test.true, c.len-j-end.ensures.count, cones_length c.args.fan)) (c.loop-j.invariant.seen k l))
          here;
    }

pub overflow_mul-best : goal.overflow_mul-best
overflow_mul-best c = with_limited (limited _ _ c.loop-j.invariant.best.reach_limit ∷ []) (λ xs h a. simp (a, amounts) (amount_fits xs h w128 _ tt))

pub new-requires : goal.new-requires
new-requires c =
    let length_limit = c.loop-j.invariant.best.length_limit in
    record {
      some = c.loop-j.invariant.best.some;
      numerator = with_limited (limited _ _ c.loop-j.invariant.best.reach_limit ∷ []) (λ xs h a. simp (a, amounts) (amount_within xs h _ tt));
      denominator = omega arith;
    }

pub span-requires : goal.span-requires
span-requires c =
    let best = c.loop-j.best in
    let listed : best.direction < length c.args.fan.cones + length c.args.fan.cones = omega (arith, c.loop-j.invariant.best.listed, cones_length c.args.fan) in
    let named = around_named (points_of c.args.cloud) c.args.fan best.direction c.at-cone.result c.requires listed (around_first c.args.fan best.direction c.at-cone.result c.at-cone.ensures) in
    record {
      direction = around_short c.args.fan best.direction c.at-cone.result c.requires.short c.at-cone.ensures;
      hi = named.0;
      lo = named.1;
    }

pub returns : goal.returns
returns c =
    let points = points_of c.args.cloud in
    let fan = half_fan_of c.args.fan in
    let best = c.loop-j.best in
    let size = c.new.result in
    let span = span_of c.span.result in
    let is_cone = around_first c.args.fan best.direction c.at-cone.result c.at-cone.ensures in
    let bounds = subst (λ (cone : fans.HalfCone). AreBounds points cone.direction cone.high cone.low span) is_cone (record { is = c.span.ensures.bounds; short = c.span.ensures.short }) in
    let passes = strip_passes points fan best size span c.requires c.loop-j.invariant.best (λ k l. c.loop-j.invariant.seen k (omega (arith, c.loop-j-test.false, c.len-j-end.ensures.count, cones_length c.args.fan))) c.loop-j.invariant.before c.new.ensures.lowest c.new.ensures.value bounds in
    subst (λ (cone : fans.HalfCone). PassesStrip points (record { size = size; direction = cone.direction; bounds = span; fan = fan })) (sym is_cone) passes

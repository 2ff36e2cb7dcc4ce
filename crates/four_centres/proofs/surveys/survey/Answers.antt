use Rattle.std.proofs.Common.{rules, sym, subst, ap, ◌≡◌, ◌+◌, ℕ, ℤ, SFits, w32, arith}
use Rattle.std.proofs.lemmas.Int.{to_z-of_z, ints}
use Rattle.bounds_model.specs.Numbers.{IsWithin}
use Rattle.bounds_model.specs.Plane.{plane_limit}
use Rattle.bounded_coords.specs.Clouds.{counted_points}
use Rattle.corner_squares.specs.declared.extent.Extent.{Extent}
use Rattle.corner_squares.specs.Extents.{IsSpan, IsShort}
use Rattle.four_centres.specs.Surveys.{IsSpanOf}
use Rattle.four_centres.proofs.Spans.{span_of_ends, span_start, span_same, span_more, span_of_all, far_across, far_up, short_by_length}
use Rattle.four_centres.proofs.surveys.survey.Goals as goal
use Rattle.four_centres.proofs.surveys.survey.Goals.{then-not-any_contains+else-length-limit-2, else-not-any_contains}

pub returns-then-length-limit-clause-found : goal.returns-then-length-limit-clause-found
returns-then-length-limit-clause-found g c =
    let points = counted_points c.args.cloud in
    let span : IsSpan (λ p. p.x) points c.args.squares.now c.extent-across.result = subst (IsSpan (λ p. p.x) points c.args.squares.now) (sym c.extent-across.ensures) (span_of_ends (λ p. p.x) points c.args.order.now c.args.squares.now c.args.ends c.requires.order c.requires.ends) in
    far_across points c.args.squares.now c.args.limit c.length.result c.extent-across.result c.pair.result span.low_at span.high_at c.length.ensures c.if-length-limit.true c.pair.ensures

-- one value is as short as any
one_value : (v : ℤ) (limit : ℕ) (e : Extent) → e.low ≡ v → e.high ≡ v → IsShort limit e
one_value v limit e low high = omega (arith, ints, low, high)

pub points-init : goal.points-init
points-init g c =
    let points = counted_points c.args.cloud in
    let fits : SFits w32 c.y.result = search rules in
    let is = simp to_z-of_z at c.new-up.ensures in
    let around = c.requires.ends.around in
    let ordered = around.ordered in
    let within = around.within in
    record {
      span = span_start (λ p. p.y) points c.args.order.now c.args.squares.now c.args.ends.low c.point.result.now c.new-up.result c.requires.order.names (omega (arith, ordered, within)) c.point.ensures.point c.requires.ends.low
          (subst (IsWithin plane_limit) c.y.ensures.value c.y.ensures.bounds) c.y.result c.y.ensures.value is;
      short = one_value c.y.result c.args.limit c.new-up.result (ap (λ e. e.low) is) (ap (λ e. e.high) is);
      steps = let s = c.point.ensures.step in omega (arith, s);
    }

pub returns-then-length-limit-2-clause-found : goal.returns-then-length-limit-2-clause-found
returns-then-length-limit-2-clause-found g c =
    let points = counted_points c.args.cloud in
    let fits : SFits w32 c.y-then-not-any_contains.result = search rules in
    let below = c.points-test.true in
    let within = c.requires.ends.around.within in
    let span = span_more (λ p. p.y) points c.args.order.now c.args.squares.now c.args.ends.low c.points.i c.point-p.result.now c.points.up c.with-up.result c.requires.order.names (omega (arith, below, within)) c.point-p.ensures.point
    (λ covered. let yes = c.any_contains.ensures.1 covered in let no = c.if-not-any_contains.true in absurd (cc (yes, no))) (subst (IsWithin plane_limit) c.y-then-not-any_contains.ensures.value c.y-then-not-any_contains.ensures.bounds)
    c.points.invariant.span c.y-then-not-any_contains.result c.y-then-not-any_contains.ensures.value (simp to_z-of_z at c.with-up.ensures) in
    far_up points c.args.squares.now c.args.limit c.length-then-not-any_contains.result c.with-up.result c.pair-then-length-limit-2.result span.low_at span.high_at c.length-then-not-any_contains.ensures c.if-length-limit-2.true c.pair-then-length-limit-2.ensures

pub points-preserved : goal.points-preserved
points-preserved g c = elim c.if-not-any_contains.branch [
  | then-not-any_contains+else-length-limit-2 w ↦
      let points = counted_points c.args.cloud in
      let fits : SFits w32 w.y-then-not-any_contains.result = search rules in
      let below = c.points-test.true in
      let within = c.requires.ends.around.within in
      let span = span_more (λ p. p.y) points c.args.order.now c.args.squares.now c.args.ends.low c.points.i c.point-p.result.now c.points.up w.with-up.result c.requires.order.names (omega (arith, below, within)) c.point-p.ensures.point
      (λ covered. let yes = c.any_contains.ensures.1 covered in let no = w.if-not-any_contains.true in absurd (cc (yes, no))) (subst (IsWithin plane_limit) w.y-then-not-any_contains.ensures.value w.y-then-not-any_contains.ensures.bounds)
      c.points.invariant.span w.y-then-not-any_contains.result w.y-then-not-any_contains.ensures.value (simp to_z-of_z at w.with-up.ensures) in
      record {
        span = subst (IsSpanOf (λ p. p.y) points c.args.order.now c.args.squares.now c.args.ends.low (c.points.i + 1)) (sym w.up-is) span;
        short = subst (IsShort c.args.limit) (sym w.up-is) (short_by_length c.args.limit w.length-then-not-any_contains.result w.with-up.result w.length-then-not-any_contains.ensures w.if-length-limit-2.false);
        steps = let h = c.points.invariant.steps in let s = c.point-p.ensures.step in omega (arith, h, s);
      }
  | else-not-any_contains w ↦ record {
    span = subst (IsSpanOf (λ p. p.y) (counted_points c.args.cloud) c.args.order.now c.args.squares.now c.args.ends.low (c.points.i + 1)) (sym w.up-is)
        (span_same (λ p. p.y) (counted_points c.args.cloud) c.args.order.now c.args.squares.now c.args.ends.low c.points.i c.point-p.result.now c.points.up c.point-p.ensures.point (c.any_contains.ensures.0 w.if-not-any_contains.false) c.points.invariant.span);
    short = subst (IsShort c.args.limit) (sym w.up-is) c.points.invariant.short;
    steps = let h = c.points.invariant.steps in let s = c.point-p.ensures.step in omega (arith, h, s);
  }
]

pub returns-clause-found : goal.returns-clause-found
returns-clause-found g c =
    let points = counted_points c.args.cloud in
    let past = c.points-test.false in
    let end = c.points.auto.i-end in
    let ordered = c.requires.ends.around.ordered in (
      record {
        across = subst (IsSpan (λ p. p.x) points c.args.squares.now) (sym c.extent-across.ensures) (span_of_ends (λ p. p.x) points c.args.order.now c.args.squares.now c.args.ends c.requires.order c.requires.ends);
        up = span_of_all (λ p. p.y) points c.args.order.now c.args.squares.now c.args.ends c.points.i c.points.up c.requires.order.names c.requires.ends.around (omega (arith, past, end, ordered)) c.points.invariant.span;
      },
      record {
        in_x = short_by_length c.args.limit c.length.result c.extent-across.result c.length.ensures c.if-length-limit.false;
        in_y = c.points.invariant.short;
      },
    )

use Rattle.std.proofs.Common.{◌≡◌, ◌∙◌, refl, sym, ap, nat_abs, FitsSigned, arith, rules, of_z}
use Rattle.std.specs.Int.{w128}
use Rattle.std.proofs.lemmas.Int.{to_z-of_z}
use Rattle.bounds_model.specs.Plane.{PlaneRatio}
use Rattle.bounds_model.specs.AnswerText.Fields.{plane_ratio}
use Rattle.answer_lines.specs.Judging.{judged_field}
use Rattle.answer_lines.proofs.FieldJudgements.{same_number, judged-kept, plane_ratio-out}
use Rattle.answer_lines.proofs.fields.judged_plane_ratio.Goals as goal
use Rattle.answer_lines.proofs.fields.judged_plane_ratio.Goals.{then-x-via-then-x, then-x-via-else-x+then-y, then-x-via-else-x+else-y+then-w}

pub returns-then-x : goal.returns-then-x
returns-then-x c =
    let range_x : FitsSigned w128 c.args.x = c.ranges.x in
    let range_y : FitsSigned w128 c.args.y = c.ranges.y in
    let range_w : FitsSigned w128 c.args.w = c.ranges.w in
    let x-abs : c.unsigned_abs.result ≡ nat_abs c.args.x = simp to_z-of_z at c.unsigned_abs.ensures.value in
    let y-abs : c.unsigned_abs-else-unsigned_abs-gt-LIMIT.result ≡ nat_abs c.args.y = simp to_z-of_z at c.unsigned_abs-else-unsigned_abs-gt-LIMIT.ensures.value in
    let w-abs : c.unsigned_abs-else-unsigned_abs-gt-LIMIT-2.result ≡ nat_abs c.args.w = simp to_z-of_z at c.unsigned_abs-else-unsigned_abs-gt-LIMIT-2.ensures.value in
    let kept = simp to_z-of_z at c.new-value.ensures.kept in
    plane_ratio-out c.args.x c.args.y c.args.w (omega arith) (omega arith) (omega arith) (λ whole.
    let value-is : c.new-value.result ≡ record { x = c.args.x; y = c.args.y; w = c.args.w } = kept whole in
    elim c.then-x.branch [
      | then-x-via-then-x v ↦ v.if-x.true (ap (of_z w128) (c.x.ensures.value ∙ ap (λ (p : PlaneRatio). p.x) value-is))
      | then-x-via-else-x+then-y v ↦ v.if-y.true (ap (of_z w128) (v.y.ensures.value ∙ ap (λ (p : PlaneRatio). p.y) value-is))
      | then-x-via-else-x+else-y+then-w v ↦ v.if-w.true (ap (of_z w128) (v.w.ensures.value ∙ ap (λ (p : PlaneRatio). p.w) value-is))
    ])

pub returns : goal.returns
returns c =
    let range_x : FitsSigned w128 c.args.x = c.ranges.x in
    let range_y : FitsSigned w128 c.args.y = c.ranges.y in
    let range_w : FitsSigned w128 c.args.w = c.ranges.w in
    let fits_x : FitsSigned w128 c.x.result = search rules in
    let fits_y : FitsSigned w128 c.y.result = search rules in
    let fits_w : FitsSigned w128 c.w.result = search rules in
    let x-is : c.new-value.result.x ≡ c.args.x = sym c.x.ensures.value ∙ same_number c.x.result c.args.x fits_x range_x c.if-x.false in
    let y-is : c.new-value.result.y ≡ c.args.y = sym c.y.ensures.value ∙ same_number c.y.result c.args.y fits_y range_y c.if-y.false in
    let w-is : c.new-value.result.w ≡ c.args.w = sym c.w.ensures.value ∙ same_number c.w.result c.args.w fits_w range_w c.if-w.false in
    let same : ◌≡◌ {A = PlaneRatio} c.new-value.result (record { x = c.args.x; y = c.args.y; w = c.args.w }) = λ i. record { x = x-is i; y = y-is i; w = w-is i } in
    sym (judged-kept plane_ratio c.new-value.result refl c.x.ensures.lowest) ∙ ap (judged_field plane_ratio) same

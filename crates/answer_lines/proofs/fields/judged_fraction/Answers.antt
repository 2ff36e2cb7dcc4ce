use Rattle.std.proofs.Common.{◌≡◌, ◌∙◌, sym, ap, subst, pos, ◌≤ℤ◌, nat_abs, FitsSigned, arith}
use Rattle.std.specs.Int.{w128}
use Rattle.std.proofs.lemmas.Int.{to_z-of_z, ints}
use Rattle.integers.proofs.Magnitudes.{magnitude_is}
use Rattle.bounds_model.specs.Fractions.{Fraction}
use Rattle.bounds_model.specs.Ranges.{IsFraction}
use Rattle.answer_lines.proofs.FieldJudgements.{fraction-kept, fraction-out}
use Rattle.answer_lines.proofs.fields.judged_fraction.Goals as goal
use Rattle.answer_lines.proofs.fields.judged_fraction.Goals.{then-num-n-via-then-num-n, then-num-n-via-else-num-n+then-den-d}

pub returns-then-num-n : goal.returns-then-num-n
returns-then-num-n c =
    let range_n : FitsSigned w128 c.args.n = c.ranges.n in
    let range_d : FitsSigned w128 c.args.d = c.ranges.d in
    let n-abs : c.unsigned_abs.result ≡ nat_abs c.args.n = simp to_z-of_z at c.unsigned_abs.ensures.value in
    let d-abs : c.unsigned_abs-else-unsigned_abs-gt-LIMIT.result ≡ nat_abs c.args.d = simp to_z-of_z at c.unsigned_abs-else-unsigned_abs-gt-LIMIT.ensures.value in
    let kept = simp to_z-of_z at c.new-value.ensures.kept in
    fraction-out c.args.n c.args.d (omega arith) (omega arith) (λ whole.
    let n-is : c.args.n ≡ pos (nat_abs c.args.n) = sym (magnitude_is {z = c.args.n} whole.lowest.not_negative.numerator) in
    let d-is : c.args.d ≡ pos (nat_abs c.args.d) = sym (magnitude_is {z = c.args.d} (let low : pos 1 ≤ℤ c.args.d = whole.lowest.not_negative.denominator in omega (arith, ints))) in
    let value-is : c.new-value.result ≡ record { n = pos (nat_abs c.args.n); d = pos (nat_abs c.args.d) } = kept (subst IsFraction (λ i. record { n = n-is i; d = d-is i }) whole) in
    elim c.then-num-n.branch [
      | then-num-n-via-then-num-n w ↦ let other = simp to_z-of_z at w.if-num-n.true in other (ap nat_abs (c.num.ensures.value ∙ ap (λ (f : Fraction). f.n) value-is))
      | then-num-n-via-else-num-n+then-den-d w ↦ let other = simp to_z-of_z at w.if-den-d.true in other (ap nat_abs (w.den.ensures.value ∙ ap (λ (f : Fraction). f.d) value-is))
    ])

pub returns : goal.returns
returns c =
    let range_n : FitsSigned w128 c.args.n = c.ranges.n in
    let range_d : FitsSigned w128 c.args.d = c.ranges.d in
    let n-is : c.num.result ≡ nat_abs c.args.n = simp to_z-of_z at c.if-num-n.false in
    let d-is : c.den.result ≡ nat_abs c.args.d = simp to_z-of_z at c.if-den-d.false in
    let n-test = simp to_z-of_z at c.if-n-lt0.false in
    let d-test = simp to_z-of_z at c.if-d-lt1.false in
    let n-low : pos 0 ≤ℤ c.args.n = grind (arith, ints) in
    let d-low : pos 1 ≤ℤ c.args.d = grind (arith, ints) in
    fraction-kept c.new-value.result c.args.n c.args.d c.num.result c.den.result c.num.ensures.lowest c.num.ensures.value c.den.ensures.value n-is d-is n-low d-low

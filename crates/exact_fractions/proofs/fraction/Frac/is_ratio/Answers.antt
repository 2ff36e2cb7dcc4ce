use Rattle.std.proofs.Common.{sym, subst, ap, pos, ℕ, ◌<◌, ◌≤ℤ◌, ◌<ℤ◌, arith}
use Rattle.std.proofs.lemmas.Int.{ints}
use Rattle.std.proofs.lemmas.Bool.{eqb-true, eq-eqb}
use Rattle.exact_fractions.proofs.UniqueForms.{has_value, same_number, same_fraction}
use Rattle.exact_fractions.proofs.fraction.Frac.is_ratio.Goals as goal

positive : {d : ℕ} → 0 < d → pos 0 <ℤ pos d
positive {d} h = omega (arith, ints)

pub returns-then-num-clause-value : goal.returns-then-num-clause-value
returns-then-num-clause-value c =
    let is = has_value c.args.self.now c.new-ratio.result (record { n = pos c.args.n; d = pos c.args.d }) (positive c.requires.some) c.new-ratio.ensures.lowest c.new-ratio.ensures.value in (
      λ yes. (is.1 (same_fraction c.args.self.now c.new-ratio.result c.num.ensures.value c.num-2.ensures.value c.den.ensures.value c.den-then-num.ensures.value c.if-num.true (eqb-true c.den.result c.den-then-num.result yes))).1,
      λ h. eq-eqb c.den.result c.den-then-num.result (same_number c.den.ensures.value c.den-then-num.ensures.value (ap (λ f. f.d) (is.0 (c.num.ensures.lowest, h)))),
    )

pub returns-else-num-clause-value : goal.returns-else-num-clause-value
returns-else-num-clause-value c =
    let is = has_value c.args.self.now c.new-ratio.result (record { n = pos c.args.n; d = pos c.args.d }) (positive c.requires.some) c.new-ratio.ensures.lowest c.new-ratio.ensures.value in (
      λ yes. absurd (c.if-num.false (eqb-true c.num.result c.num-2.result yes)),
      λ h. eq-eqb c.num.result c.num-2.result (same_number c.num.ensures.value c.num-2.ensures.value (ap (λ f. f.n) (is.0 (c.num.ensures.lowest, h)))),
    )

pub returns-then-num-clause-within : goal.returns-then-num-clause-within
returns-then-num-clause-within c same_yes =
    let same = same_fraction c.args.self.now c.new-ratio.result c.num.ensures.value c.num-2.ensures.value c.den.ensures.value c.den-then-num.ensures.value c.if-num.true (eqb-true c.den.result c.den-then-num.result same_yes) in
    (subst (λ f. f.n ≤ℤ pos c.args.n) (sym same) c.new-ratio.ensures.numerator, subst (λ f. f.d ≤ℤ pos c.args.d) (sym same) c.new-ratio.ensures.denominator)

pub returns-else-num-clause-within : goal.returns-else-num-clause-within
returns-else-num-clause-within c same_yes = absurd (c.if-num.false (eqb-true c.num.result c.num-2.result same_yes))

use Rattle.std.proofs.Common.{◌≡◌, sym, ◌∙◌, ap, ap₂, ℕ, ◌≤◌, ◌*◌, pos, ℤ, ◌<ℤ◌, arith}
use Rattle.std.proofs.lemmas.Int.{ints}
use Rattle.std.proofs.lemmas.Bool.{eqb-true, eq-eqb}
use Rattle.bounds_model.specs.Fractions.{Fraction}
use Rattle.exact_fractions.proofs.UniqueForms.{has_value}
use Rattle.ball_check.proofs.balls.is_size.Goals as goal

positive : {t : ℕ} → 1 ≤ t → pos 0 <ℤ pos (2 * t)
positive {t} h = omega (arith, ints)

-- numbers that stand for equal ones are equal
same_number : {m n : ℕ} {a b : ℤ} → pos m ≡ a → pos n ≡ b → a ≡ b → m ≡ n
same_number {m} {n} {a} {b} h k e = omega (arith, ints)

same_fraction : {m n d e : ℕ} (a b : Fraction) → pos m ≡ a.n → pos n ≡ b.n → pos d ≡ a.d → pos e ≡ b.d → m ≡ n → d ≡ e → a ≡ b
same_fraction a b an bn ad bd h k = ap₂ (λ n d. let f : Fraction = record { n = n; d = d } in f) (sym an ∙ ap pos h ∙ bn) (sym ad ∙ ap pos k ∙ bd)

pub returns-then-num : goal.returns-then-num
returns-then-num c =
    let is = has_value c.args.size.now c.size-mean.result (record { n = pos c.args.totals.now.second_moment; d = pos (2 * c.args.totals.now.weight) }) (positive c.requires.some) c.size-mean.ensures.lowest c.size-mean.ensures.value in (
      λ yes. is.1 (same_fraction c.args.size.now c.size-mean.result c.num.ensures.value c.num-2.ensures.value c.den.ensures.value c.den-then-num.ensures.value c.if-num.true (eqb-true c.den.result c.den-then-num.result yes)),
      λ h. eq-eqb c.den.result c.den-then-num.result (same_number c.den.ensures.value c.den-then-num.ensures.value (ap (λ f. f.d) (is.0 h))),
    )

pub returns-else-num : goal.returns-else-num
returns-else-num c =
    let is = has_value c.args.size.now c.size-mean.result (record { n = pos c.args.totals.now.second_moment; d = pos (2 * c.args.totals.now.weight) }) (positive c.requires.some) c.size-mean.ensures.lowest c.size-mean.ensures.value in (
      λ yes. absurd (c.if-num.false (eqb-true c.num.result c.num-2.result yes)),
      λ h. eq-eqb c.num.result c.num-2.result (same_number c.num.ensures.value c.num-2.ensures.value (ap (λ f. f.n) (is.0 h))),
    )

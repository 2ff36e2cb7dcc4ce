use Rattle.std.proofs.Common.{rules, IsTrue, ◌↔◌, ◌≡◌, sym, subst, ◌∙◌, ℕ, ◌≤◌, ◌^◌, ℤ, pos, nat_abs, ◌*ℤ◌, ◌≤ℤ◌, ◌<ℤ◌, FitsSigned, to_z-of_z, refl, arith}
use Rattle.std.proofs.lemmas.Int.{ints}
use mir.Syntax.{w128}
use Rattle.integers.proofs.Sizes.{size_fits_in}
use Rattle.bounds_model.specs.Strip.{extent}
use Rattle.answers.specs.Answers.{span_of}
use Rattle.integers.proofs.Lists.{clash}
use Rattle.fan_checks.proofs.Widths.{no_value, magnitude_is}
use Rattle.fan_checks.proofs.spans.is_product.Goals as goal

more : {d : ℕ} → 1 ≤ d → pos 1 ≤ℤ pos d
more h = omega (arith, ints)

most : {n : ℕ} {m : ℤ} (z : ℤ) → n ≡ nat_abs z → nat_abs z ≤ 2 ^ 82 → m ≤ℤ pos n → m ≤ℤ pos (2 ^ 82)
most {n} z h k l = let w : n ≤ 2 ^ 82 = omega (arith, h, k) in omega (arith, ints, w, l)

pub returns-then-area-lt0-clause-value : goal.returns-then-area-lt0-clause-value
returns-then-area-lt0-clause-value c =
    let fits : FitsSigned w128 c.area-area.result = size_fits_in w128 c.area-area.ensures.size tt in
    let test = simp to_z-of_z at c.if-area-lt0.true in
    let below : c.area-area.result <ℤ pos 0 = search rules in
    let lowest = c.is_ratio-ratio.ensures.lowest.lowest.not_negative in (
      λ same. absurd (clash same refl),
      λ same. absurd (no_value c.area-area.result lowest.numerator lowest.denominator (more c.requires.some) below (subst (λ p. c.args.size.now.n *ℤ pos c.args.denominator ≡ p *ℤ c.args.size.now.d) (sym c.area-area.ensures.value) same)),
    )

pub returns-clause-value : goal.returns-clause-value
returns-clause-value c =
    let fits : FitsSigned w128 c.area-area.result = size_fits_in w128 c.area-area.ensures.size tt in
    let is : c.unsigned_abs.result ≡ nat_abs c.area-area.result = simp to_z-of_z at c.unsigned_abs.ensures.value in
    let test = simp to_z-of_z at c.if-area-lt0.false in
    let above : pos 0 ≤ℤ c.area-area.result = search rules in
    let whole : pos c.unsigned_abs.result ≡ extent (span_of c.args.first) *ℤ extent (span_of c.args.second) = magnitude_is c.area-area.result is above ∙ c.area-area.ensures.value in
    subst (λ p. IsTrue c.is_ratio-ratio.result ↔ (c.args.size.now.n *ℤ pos c.args.denominator ≡ p *ℤ c.args.size.now.d)) whole c.is_ratio-ratio.ensures.value

pub returns-clause-numerator : goal.returns-clause-numerator
returns-clause-numerator c same =
    let fits : FitsSigned w128 c.area-area.result = size_fits_in w128 c.area-area.ensures.size tt in
    let is : c.unsigned_abs.result ≡ nat_abs c.area-area.result = simp to_z-of_z at c.unsigned_abs.ensures.value in
    most c.area-area.result is c.area-area.ensures.size.abs (c.is_ratio-ratio.ensures.within same).0

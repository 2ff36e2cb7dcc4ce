use Prim.Native.Nat.{◌∣◌}
use Rattle.std.proofs.Common.{◌≡◌, sym, ◌∙◌, ap, subst, ◌+◌, ◌≤◌, ◌<◌, ◌^◌, suc, drop, length, get_or, ℤ, pos, nat_abs, FitsSigned, arith, rules, drop-cons}
use Rattle.std.specs.Prelude.{All}
use Rattle.std.proofs.lemmas.Int.{to_z-of_z}
use Rattle.std.proofs.lemmas.List.{drop_all, take_all}
use Rattle.std.proofs.lemmas.List.Elements.{All-get_or}
use mir.Syntax.{w128}
use Rattle.integers.specs.Size.{Size}
use Rattle.exact_fractions.specs.Divisors.{IsDivisorOf}
use Rattle.kernel_laws.proofs.Lowering.{gcd_along, gcd_along-step, gcd_along-each, gcd_le, divisor_positive, reduces_by}
use Rattle.kernel_laws.proofs.lists.lowest.Goals as goal

pub divide-preserved : goal.divide-preserved
divide-preserved c =
    let whole = c.args.whole.now in
    let i = c.divide.n-index in
    let x : ℤ = get_or whole i (pos 0) in
    let below : i < length whole = c.divide-test.true in
    let size : Size (2 ^ 124) x = All-get_or (Size (2 ^ 124)) whole i (pos 0) below c.requires.sizes in
    let range : FitsSigned w128 x = search rules in
    let magnitude : c.unsigned_abs.result ≡ nat_abs x = simp to_z-of_z at c.unsigned_abs.ensures.value in
    let next : i + 1 ≡ suc i = omega arith in
    record {
      divisor_is = ap (λ k. gcd_along c.gcd-divisor.result (drop k whole)) next ∙ gcd_along-step c.divide.divisor c.gcd-divisor.result c.unsigned_abs.result x (drop (suc i) whole) magnitude c.gcd-divisor.ensures ∙ ap (gcd_along c.divide.divisor) (sym (drop-cons whole i (pos 0) below)) ∙ c.divide.invariant.divisor_is;
      small = gcd_le c.divide.divisor c.unsigned_abs.result c.gcd-divisor.result (2 ^ 124) c.gcd-divisor.ensures c.divide.invariant.small (subst (λ n. n ≤ 2 ^ 124) (sym magnitude) size.abs);
    }

pub quotient-requires-clause-divisor : goal.quotient-requires-clause-divisor
quotient-requires-clause-divisor c =
    let whole = c.args.whole.now in
    let i = c.fill.n-index in
    let x : ℤ = get_or whole i (pos 0) in
    let range : FitsSigned w128 x = search rules in
    let is : c.divide.divisor ≡ gcd_along 0 whole = sym (ap (gcd_along c.divide.divisor) (drop_all c.divide.n-index whole c.divide-test.false)) ∙ c.divide.invariant.divisor_is in
    let each : All (λ e. c.divide.divisor ∣ nat_abs e) whole = subst (λ k. All (λ e. k ∣ nat_abs e) whole) (sym is) (gcd_along-each 0 whole) in
    let small : c.divide.divisor ≤ 2 ^ 124 = c.divide.invariant.small in
    let part : IsDivisorOf c.divide.divisor x = record {
      positive = divisor_positive c.divide.divisor whole each c.requires.positive;
      limited = omega arith;
      divides = All-get_or (λ e. c.divide.divisor ∣ nat_abs e) whole i (pos 0) c.fill-test.true each;
    } in
    simp to_z-of_z part

pub returns : goal.returns
returns c =
    let whole = c.args.whole.now in
    let is : c.divide.divisor ≡ gcd_along 0 whole = sym (ap (gcd_along c.divide.divisor) (drop_all c.divide.n-index whole c.divide-test.false)) ∙ c.divide.invariant.divisor_is in
    let each : All (λ e. c.divide.divisor ∣ nat_abs e) whole = subst (λ k. All (λ e. k ∣ nat_abs e) whole) (sym is) (gcd_along-each 0 whole) in
    reduces_by whole c.fill.parts.items c.divide.divisor is (divisor_positive c.divide.divisor whole each c.requires.positive) (c.fill.invariant.parts_are ∙ take_all c.fill.n-index whole c.fill-test.false)

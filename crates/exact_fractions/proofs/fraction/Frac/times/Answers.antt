use Rattle.std.proofs.Common.{◌*◌, ◌/◌, ◌≤◌, ◌<ℤ◌, ◌^◌, ◌∙◌, ap, pos, refl, sym, subst, arith}
use Rattle.bounds_model.specs.Fractions.{lowest_form, multiple}
use Rattle.exact_fractions.proofs.Quotients.{divisor_positive}
use Rattle.exact_fractions.proofs.ScaledForms.{positive_rest, product_within, product_past, times_is, times_past, times_within, IsFraction-times}
use Rattle.exact_fractions.proofs.fraction.Frac.times.Goals as goal

abbrev within : (c : goal.Else-self-factor) → c.self.inside.num * (c.args.k / c.gcd-divisor.result) ≤ 2 ^ 126
within c =
    let some = positive_rest c.args.k c.gcd-divisor.result c.gcd-divisor.ensures.1 c.requires.some in
    product_within c.self.inside.num (c.args.k / c.gcd-divisor.result) some (let most = c.if-self-factor.false in omega arith)

abbrev is_fraction : goal.invariant_of-result
is_fraction c = IsFraction-times c.self.inside.num c.self.inside.den c.args.k c.gcd-divisor.result c.requires.some (within c) c.self.invariant c.gcd-divisor.ensures

pub nonzero_div-factor : goal.nonzero_div-factor
nonzero_div-factor c = divisor_positive c.gcd-divisor.result c.args.k c.gcd-divisor.ensures.1 c.requires.some

pub nonzero_div-factor-2 : goal.nonzero_div-factor-2
nonzero_div-factor-2 c = positive_rest c.args.k c.gcd-divisor.result c.gcd-divisor.ensures.1 c.requires.some

pub nonzero_div-result : goal.nonzero_div-result
nonzero_div-result c = divisor_positive c.gcd-divisor.result c.args.k c.gcd-divisor.ensures.1 c.requires.some

pub invariant_of-result : goal.invariant_of-result
invariant_of-result c = is_fraction c

pub returns-then-self-factor-clause-none : goal.returns-then-self-factor-clause-none
returns-then-self-factor-clause-none c =
    let some = positive_rest c.args.k c.gcd-divisor.result c.gcd-divisor.ensures.1 c.requires.some in
    let past = product_past c.self.inside.num (c.args.k / c.gcd-divisor.result) some c.if-self-factor.true in
    let far = times_past c.self.inside.num c.self.inside.den c.args.k c.gcd-divisor.result c.requires.some c.self.invariant.lowest c.gcd-divisor.ensures past in
    (λ none. subst (λ f. pos (2 ^ 126) <ℤ (lowest_form (multiple c.args.k f)).n) c.self.view_is far, λ past. refl)

pub returns-clause-none : goal.returns-clause-none
returns-clause-none c =
    let near = times_within c.self.inside.num c.self.inside.den c.args.k c.gcd-divisor.result c.requires.some c.self.invariant.lowest c.gcd-divisor.ensures (within c) in
    (λ none. absurd (cc), λ past. absurd (near (subst (λ f. pos (2 ^ 126) <ℤ (lowest_form (multiple c.args.k f)).n) (sym c.self.view_is) past)))

pub returns-clause-value : goal.returns-clause-value
returns-clause-value c =
    times_is c.self.inside.num c.self.inside.den c.args.k c.gcd-divisor.result c.requires.some c.self.invariant.lowest c.gcd-divisor.ensures
    ∙ ap (λ f. lowest_form (multiple c.args.k f)) c.self.view_is

pub returns-clause-lowest : goal.returns-clause-lowest
returns-clause-lowest c = is_fraction c

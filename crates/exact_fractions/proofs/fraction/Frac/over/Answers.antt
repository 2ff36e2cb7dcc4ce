use Rattle.std.proofs.Common.{◌*◌, ◌/◌, ◌≤◌, ◌≤ℤ◌, ◌∙◌, ◌^◌, ap, pos, arith, sym, subst}
use Rattle.bounds_model.specs.Fractions.{lowest_form, over}
use Rattle.exact_fractions.proofs.Quotients.{divisor_positive}
use Rattle.exact_fractions.proofs.ScaledForms.{over_is, over_within, IsFraction-over}
use Rattle.exact_fractions.proofs.fraction.Frac.over.Goals as goal

abbrev within : (c : goal.After-gcd-divisor) → c.self.inside.den * (c.args.k / c.gcd-divisor.result) ≤ 2 ^ 126
within c =
    over_within c.self.inside.num c.self.inside.den c.args.k c.gcd-divisor.result c.requires.some c.self.invariant.lowest c.gcd-divisor.ensures
    (subst (λ f. (lowest_form (over c.args.k f)).d ≤ℤ pos (2 ^ 126)) (sym c.self.view_is) c.requires.denominator)

abbrev is_fraction : goal.invariant_of-result
is_fraction c = IsFraction-over c.self.inside.num c.self.inside.den c.args.k c.gcd-divisor.result c.requires.some c.self.invariant c.gcd-divisor.ensures (within c)

pub nonzero_div-result : goal.nonzero_div-result
nonzero_div-result c = divisor_positive c.gcd-divisor.result c.args.k c.gcd-divisor.ensures.1 c.requires.some

pub nonzero_div-result-2 : goal.nonzero_div-result-2
nonzero_div-result-2 c = divisor_positive c.gcd-divisor.result c.args.k c.gcd-divisor.ensures.1 c.requires.some

pub overflow_mul-result : goal.overflow_mul-result
overflow_mul-result c = let most = within c in omega arith

pub invariant_of-result : goal.invariant_of-result
invariant_of-result c = is_fraction c

pub returns-clause-value : goal.returns-clause-value
returns-clause-value c =
    over_is c.self.inside.num c.self.inside.den c.args.k c.gcd-divisor.result c.requires.some c.self.invariant.lowest c.gcd-divisor.ensures
    ∙ ap (λ f. lowest_form (over c.args.k f)) c.self.view_is

pub returns-clause-lowest : goal.returns-clause-lowest
returns-clause-lowest c = is_fraction c

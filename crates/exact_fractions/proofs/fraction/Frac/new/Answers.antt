use Rattle.std.proofs.Common.{◌≡◌, ◌/◌, pos, arith}
use Rattle.exact_fractions.proofs.LowestForms.{IsFraction-div, SameValue-div, IsGcd-lowest}
use Rattle.exact_fractions.proofs.Quotients.{divisor_positive}
use Rattle.exact_fractions.proofs.fraction.Frac.new.Goals as goal

pub nonzero_div-result : goal.nonzero_div-result
nonzero_div-result c = divisor_positive c.gcd-divisor.result c.args.d c.gcd-divisor.ensures.1 c.requires.some

pub nonzero_div-result-2 : goal.nonzero_div-result-2
nonzero_div-result-2 c = divisor_positive c.gcd-divisor.result c.args.d c.gcd-divisor.ensures.1 c.requires.some

pub invariant_of-result : goal.invariant_of-result
invariant_of-result c = IsFraction-div c.args.n c.args.d c.gcd-divisor.result c.requires.some c.requires.numerator c.requires.denominator c.gcd-divisor.ensures

pub returns-clause-value : goal.returns-clause-value
returns-clause-value c = SameValue-div c.args.n c.args.d c.gcd-divisor.result c.gcd-divisor.ensures

pub returns-clause-lowest : goal.returns-clause-lowest
returns-clause-lowest c = IsFraction-div c.args.n c.args.d c.gcd-divisor.result c.requires.some c.requires.numerator c.requires.denominator c.gcd-divisor.ensures

pub returns-clause-kept : goal.returns-clause-kept
returns-clause-kept c whole =
    let one : c.gcd-divisor.result ≡ 1 = IsGcd-lowest c.args.n c.args.d c.gcd-divisor.result c.gcd-divisor.ensures whole.lowest.lowest in
    let n-is : c.args.n / c.gcd-divisor.result ≡ c.args.n = rw one (omega arith) in
    let d-is : c.args.d / c.gcd-divisor.result ≡ c.args.d = rw one (omega arith) in
    λ i. record { n = pos (n-is i); d = pos (d-is i) }

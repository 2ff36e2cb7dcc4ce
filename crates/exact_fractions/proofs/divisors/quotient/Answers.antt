use Rattle.std.proofs.Common.{◌∙◌, ap, ◌*ℤ◌, pos, FitsSigned, ◌<ℤ◌, ◌<◌, ◌≤◌, ◌^◌, arith}
use Rattle.std.proofs.lemmas.Int.{ints, quot_is, quot_fits}
use mir.Syntax.{w128}
use Rattle.exact_fractions.proofs.Quotients.{mul-int_div}
use Rattle.exact_fractions.proofs.divisors.quotient.Goals as goal

pub returns : goal.returns
returns c =
    let limited : c.args.divisor ≤ 2 ^ 126 = c.requires.divisor.limited in
    let positive : 0 < c.args.divisor = c.requires.divisor.positive in
    let divisor_fits : FitsSigned w128 (pos c.args.divisor) = omega (arith, ints) in
    let some : pos 0 <ℤ pos c.args.divisor = omega (arith, ints) in
    ap (λ q. pos c.args.divisor *ℤ q) (quot_is w128 c.args.n (pos c.args.divisor) c.ranges.n divisor_fits (quot_fits w128 c.args.n (pos c.args.divisor) c.ranges.n some))
    ∙ mul-int_div c.args.n c.args.divisor c.requires.divisor.divides

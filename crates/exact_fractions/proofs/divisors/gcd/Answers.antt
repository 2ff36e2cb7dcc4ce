use Rattle.std.proofs.Common.{◌^◌, ◌%◌, arith}
use Rattle.std.specs.Int.{trailing_zeros}
use mir.Syntax.{w128}
use Rattle.exact_fractions.proofs.Halving.{IsGcd-from_odd_parts}
use Rattle.exact_fractions.proofs.divisors.gcd.Goals as goal

pub returns : goal.returns
returns c =
    IsGcd-from_odd_parts c.args.a c.args.b (trailing_zeros w128 (c.args.a % c.args.b)) (trailing_zeros w128 c.args.b) c.min-twos.result c.odd_part.result c.odd_part-2.result c.gcd_of_odd.result (2 ^ 128)
    (omega arith) c.ranges.b.fits c.odd_part.ensures.odd c.odd_part-2.ensures.odd c.odd_part.ensures.part c.odd_part-2.ensures.part c.min-twos.ensures c.gcd_of_odd.ensures

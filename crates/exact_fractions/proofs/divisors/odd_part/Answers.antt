use mir.Syntax.{w128}
use Rattle.exact_fractions.proofs.Halving.{odd_part_is, odd_part_odd}
use Rattle.exact_fractions.proofs.divisors.odd_part.Goals as goal

pub returns-clause-odd : goal.returns-clause-odd
returns-clause-odd c = odd_part_odd w128 c.args.n c.requires c.ranges.n.fits

pub returns-clause-part : goal.returns-clause-part
returns-clause-part c = odd_part_is w128 c.args.n c.requires c.ranges.n.fits

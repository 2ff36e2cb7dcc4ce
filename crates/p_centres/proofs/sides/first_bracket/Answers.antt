use Rattle.bounded_coords.specs.Clouds.{counted_points}
use Rattle.p_centres.proofs.Halving.{bracket_at_first}
use Rattle.p_centres.proofs.sides.first_bracket.Goals as goal

pub returns-then-bracket-eq0-clause-bracket : goal.returns-then-bracket-eq0-clause-bracket
returns-then-bracket-eq0-clause-bracket g c = bracket_at_first (counted_points c.args.cloud) c.args.p c.args.bounds c.start-bracket.result c.requires.some c.requires.bounds c.start-bracket.ensures

pub try_side-requires-clause-bracket : goal.try_side-requires-clause-bracket
try_side-requires-clause-bracket g c = bracket_at_first (counted_points c.args.cloud) c.args.p c.args.bounds c.start-bracket.result c.requires.some c.requires.bounds c.start-bracket.ensures

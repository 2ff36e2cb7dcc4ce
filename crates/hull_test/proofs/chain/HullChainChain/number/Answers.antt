use Rattle.std.proofs.Common.{sym, ◌∙◌}
use Rattle.bounded_coords.specs.Clouds.{points_of}
use Rattle.hull_test.proofs.HullReads.{numbered_corner, corner_itself}
use Rattle.hull_test.proofs.chain.HullChainChain.number.Goals as goal

pub returns-clause-point : goal.returns-clause-point
returns-clause-point c = sym (numbered_corner (points_of c.args.self.now.cloud) c.args.self.now.numbers.now c.args.i c.requires)
    ∙ corner_itself (points_of c.args.self.now.cloud) c.args.self.now.numbers.now c.args.i c.requires

use Rattle.std.proofs.Common.{refl}
use Rattle.integers.proofs.Lists.{clash}
use Rattle.bounded_coords.specs.Clouds.{points_of}
use Rattle.fan_test.proofs.Arcs.{edges_enclosing}
use Rattle.fan_test.proofs.chain.are_within_each.Goals as goal

pub returns-in-None : goal.returns-in-None
returns-in-None g c = (
  λ yes. absurd (clash yes refl),
  λ all. absurd (c.in-None.ensures.none refl (edges_enclosing (points_of c.args.cloud) (g.C.Chain.directions c.args.chain.now) (g.C.Chain.points c.args.chain.now) (g.C.Chain.cones c.args.chain.now) c.arcs.from c.requires.turns c.requires.listed c.requires.joined all)),
)

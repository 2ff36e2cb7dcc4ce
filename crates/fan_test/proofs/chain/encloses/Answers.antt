use Rattle.std.proofs.Common.{refl, arith}
use Rattle.integers.proofs.Lists.{clash}
use Rattle.bounded_coords.specs.Clouds.{points_of}
use Rattle.fan_test.proofs.Arcs.{enclosing_joined, last_part}
use Rattle.fan_test.proofs.chain.encloses.Goals as goal

pub returns-then-not-are_joined : goal.returns-then-not-are_joined
returns-then-not-are_joined g c =
    let D = g.C.Chain.directions c.args.chain.now in
    let H = g.C.Chain.points c.args.chain.now in (
      λ yes. absurd (clash yes refl),
      λ all. absurd (clash (c.are_joined.ensures.1 (enclosing_joined (points_of c.args.cloud) D H (g.C.Chain.cones c.args.chain.now) c.requires.listed all)) c.if-not-are_joined.true),
    )

pub returns-then-not-are_within : goal.returns-then-not-are_within
returns-then-not-are_within g c =
    let D = g.C.Chain.directions c.args.chain.now in
    let H = g.C.Chain.points c.args.chain.now in
    let cones = g.C.Chain.cones c.args.chain.now in (
      λ yes. absurd (clash yes refl),
      λ all. absurd (clash (c.are_within.ensures.1 (λ k d l. last_part D H c.len-cones.result cones _ c.len-cones.ensures (omega arith) (all k d l))) c.if-not-are_within.true),
    )

use Rattle.std.proofs.Common.{refl, ℕ, ◌+◌, ◌≤◌, arith}
use Rattle.integers.proofs.Lists.{clash}
use Rattle.fan_test.proofs.Arcs.{inner, of_parts}
use Rattle.fan_test.proofs.chain.is_below_arc.Goals as goal

pub returns-then-not-is_within : goal.returns-then-not-is_within
returns-then-not-is_within g c = (
  λ no. absurd (clash no refl),
  λ each. absurd (clash (c.is_within.ensures.1 (each c.args.from (omega arith) (omega arith))) c.if-not-is_within.true),
)

pub returns : goal.returns
returns g c =
    let D = g.C.Chain.directions c.args.chain.now in
    let H = g.C.Chain.points c.args.chain.now in
    let edge = c.edge_for-edge.ensures in (
      λ yes. of_parts D H c.args.from c.args.to c.args.p (c.is_within.ensures.0 c.if-not-is_within.false)
          (inner D H c.args.from c.args.to c.args.p c.edge_for-edge.result (λ i less. c.requires.turns i (omega arith)) c.requires.arc edge (c.is_within-2.ensures.0 yes)),
      λ each. c.is_within-2.ensures.1 (each (c.edge_for-edge.result + 1) (above edge.after) edge.before),
    )
  where
    above : {a b : ℕ} → a ≤ b → a ≤ b + 1
    above h = omega arith

use Rattle.std.proofs.Common.{refl, arith}
use Rattle.integers.proofs.Lists.{clash}
use Rattle.fan_test.proofs.Arcs.{inner_part, of_parts, one_inner}
use Rattle.fan_test.proofs.chain.are_below.Goals as goal

pub returns-then-not-are_within : goal.returns-then-not-are_within
returns-then-not-are_within g c = (
  λ yes. absurd (clash yes refl),
  λ all. absurd (clash (c.are_within.ensures.1 (λ k d l. all k d l c.args.from (omega arith) c.requires.some)) c.if-not-are_within.true),
)

pub returns-then-cones-eq1 : goal.returns-then-cones-eq1
returns-then-cones-eq1 g c =
    let D = g.C.Chain.directions c.args.chain.now in
    let H = g.C.Chain.points c.args.chain.now in (
      λ yes. λ k d l. of_parts D H c.args.from c.args.to _ (c.are_within.ensures.0 c.if-not-are_within.false k d l) (λ j low high. absurd (omega arith)),
      λ all. refl,
    )

pub returns : goal.returns
returns g c =
    let D = g.C.Chain.directions c.args.chain.now in
    let H = g.C.Chain.points c.args.chain.now in (
      λ yes. λ k d l. of_parts D H c.args.from c.args.to _ (c.are_within.ensures.0 c.if-not-are_within.false k d l)
          (one_inner D H c.args.from c.args.to _ (omega arith) (c.are_within-2.ensures.0 yes k d l)),
      λ all. c.are_within-2.ensures.1 (λ k d l. inner_part D H c.args.from c.args.to _ (all k d l) c.args.from (omega arith) (omega arith)),
    )

use Rattle.std.proofs.Common.{◌≡◌}
use Rattle.bounded_coords.specs.Clouds.{points_of}
use Rattle.integers.proofs.Lists.{at_point, each_more}
use Rattle.hull_test.proofs.hulls.are_all.Goals as goal

pub loop-i-preserved : goal.loop-i-preserved
loop-i-preserved c = each_more (λ p. p ≡ c.args.a.now) (points_of c.args.cloud) c.loop-i.i c.at.result.now c.at.ensures c.loop-i.invariant (c.is_same.ensures.0 c.if-not-is_same.false)

pub returns-then-not-is_same : goal.returns-then-not-is_same
returns-then-not-is_same c = (
  λ yes. absurd (cc yes),
  λ all. let yes = c.is_same.ensures.1
      (at_point (λ p. p ≡ c.args.a.now) (points_of c.args.cloud) c.loop-i.i c.at.result.now c.at.ensures all) in absurd (cc yes),
)

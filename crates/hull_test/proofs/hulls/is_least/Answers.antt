use Rattle.bounds_model.specs.Plane.{IsBefore}
use Rattle.bounded_coords.specs.Clouds.{points_of}
use Rattle.integers.proofs.Lists.{at_point, each_more}
use Rattle.hull_test.proofs.hulls.is_least.Goals as goal

pub loop-i-preserved : goal.loop-i-preserved
loop-i-preserved c = each_more (λ p. IsBefore c.args.a.now p) (points_of c.args.cloud) c.loop-i.i c.at.result.now c.at.ensures c.loop-i.invariant (c.is_before.ensures.0 c.if-not-is_before.false)

pub returns-then-not-is_before : goal.returns-then-not-is_before
returns-then-not-is_before c = (
  λ yes. absurd (cc yes),
  λ all. let yes = c.is_before.ensures.1
      (at_point (λ p. IsBefore c.args.a.now p) (points_of c.args.cloud) c.loop-i.i c.at.result.now c.at.ensures all) in absurd (cc yes),
)

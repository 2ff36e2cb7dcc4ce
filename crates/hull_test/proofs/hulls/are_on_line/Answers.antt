use Rattle.std.proofs.Common.{◌≡◌, pos}
use Rattle.bounds_model.specs.Plane.{turn}
use Rattle.bounded_coords.specs.Clouds.{points_of}
use Rattle.integers.proofs.Lists.{at_point, each_more}
use Rattle.hull_test.proofs.hulls.are_on_line.Goals as goal

pub loop-i-preserved : goal.loop-i-preserved
loop-i-preserved c = each_more (λ p. turn c.args.a.now c.args.b.now p ≡ pos 0) (points_of c.args.cloud) c.loop-i.i c.at.result.now c.at.ensures c.loop-i.invariant
    (c.is_flat.ensures.0 c.if-not-is_flat.false)

pub returns-then-not-is_flat : goal.returns-then-not-is_flat
returns-then-not-is_flat c = (
  λ yes. absurd (cc yes),
  λ all. let yes = c.is_flat.ensures.1
      (at_point (λ p. turn c.args.a.now c.args.b.now p ≡ pos 0) (points_of c.args.cloud) c.loop-i.i c.at.result.now c.at.ensures all) in absurd (cc yes),
)

use Rattle.std.specs.Prelude.{Any}
use Rattle.bounds_model.specs.Centres.{IsNear}
use Rattle.bounded_coords.specs.Clouds.{points_of}
use Rattle.integers.proofs.Lists.{at_point, each_more}
use Rattle.centres_check.proofs.cover.cover.Goals as goal

pub loop-i-preserved : goal.loop-i-preserved
loop-i-preserved c =
    each_more (λ p. Any (IsNear c.args.radius.now p) c.args.squares.now) (points_of c.args.cloud) c.loop-i.i c.at.result.now c.at.ensures c.loop-i.invariant
    (c.is_covered.ensures.0 c.if-not-is_covered.false)

pub returns-then-not-is_covered : goal.returns-then-not-is_covered
returns-then-not-is_covered c =
    (λ yes. absurd (cc yes), λ all. let yes = c.is_covered.ensures.1 (at_point (λ p. Any (IsNear c.args.radius.now p) c.args.squares.now) (points_of c.args.cloud) c.loop-i.i c.at.result.now c.at.ensures all) in absurd (cc yes))

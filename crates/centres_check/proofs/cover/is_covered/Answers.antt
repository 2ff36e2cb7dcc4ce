use Rattle.bounds_model.specs.Centres.{IsNear}
use Rattle.integers.proofs.Lists.{none_more}
use Rattle.centres_check.proofs.cover.is_covered.Goals as goal

pub loop-c-preserved : goal.loop-c-preserved
loop-c-preserved c =
    none_more (IsNear c.args.radius.now c.args.p.now) c.args.squares.now c.loop-c.c-index c.c-item.result c.loop-c-test.true c.c-item.is c.loop-c.invariant
    (λ near. let yes = c.is_near.ensures.1 near in absurd (cc yes))

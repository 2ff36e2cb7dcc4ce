use Rattle.std.proofs.Common.{refl, arith, below_more}
use Rattle.answers.specs.Answers.{polygon_of}
use Rattle.polygon_check.specs.PolygonLimits.{RaisesFrom}
use Rattle.polygon_check.proofs.potentials.raise_all.Goals as goal

pub firsts-preserved : goal.firsts-preserved
firsts-preserved c = below_more (RaisesFrom c.args.corners.now (polygon_of c.args.a.now)) c.firsts.first c.firsts.invariant (c.raise_from.ensures.0 c.if-not-raise_from.false)

pub returns-then-not-raise_from : goal.returns-then-not-raise_from
returns-then-not-raise_from c = (λ yes. absurd (cc yes), λ all. let yes = c.raise_from.ensures.1 (all c.firsts.first (omega (arith, c.firsts-test.true, c.len-first-end.ensures.count))) in absurd (cc yes))

pub returns : goal.returns
returns c = (λ yes. λ first low. c.firsts.invariant first (omega (arith, low, c.firsts-test.false, c.len-first-end.ensures.count)), λ all. refl)

use Rattle.std.proofs.Common.{arith}
use Rattle.fan_test.proofs.Marks.{none_marked, mark_more}
use Rattle.fan_test.proofs.chain.named_on.Goals as goal

pub loop-i-init : goal.loop-i-init
loop-i-init g c = none_marked (g.C.Chain.cloud c.args.chain.now) (g.C.Chain.points c.args.chain.now) c.args.from 10000

pub loop-i-preserved : goal.loop-i-preserved
loop-i-preserved g c = mark_more (g.C.Chain.cloud c.args.chain.now) (g.C.Chain.points c.args.chain.now) c.args.from c.loop-i.i c.number.result c.loop-i.named c.loop-i.auto.i c.number.ensures.point c.loop-i.invariant

pub returns : goal.returns
returns g c = λ n is. let mark = c.loop-i.invariant n is in (mark.0, mark.1, omega (arith, mark.2), mark.3)

use Rattle.fan_test.specs.Chains.{AreNamed}
use Rattle.fan_test.proofs.chain.named_on.Given as goal

-- the marks so far are those of named points
abbrev pub invariant-loop-i : goal.invariant-loop-i
invariant-loop-i g l = AreNamed (g.C.Chain.cloud l.chain) (g.C.Chain.points l.chain) l.from l.i l.named

use Rattle.std.proofs.Common.{◌+◌}
use Rattle.std.specs.Prelude.{◌≡◌}
use Rattle.fan_test.specs.Chains.{AreJoined}
use Rattle.fan_test.proofs.chain.are_joined.Given as goal

abbrev pub invariant-loop-i : goal.invariant-loop-i
invariant-loop-i g l = record {
  joined : AreJoined (g.C.Chain.directions l.chain) (g.C.Chain.points l.chain) (l.i + 1);
  before : l.before ≡ g.C.Chain.points l.chain l.i;
}

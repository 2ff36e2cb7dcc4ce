use Rattle.std.proofs.Common.{◌-◌}
use Rattle.std.specs.Prelude.{◌≡◌}
use Rattle.bounds_model.specs.Plane.{dot}
use Rattle.fan_test.specs.Chains.{IsArc}
use Rattle.fan_test.proofs.chain.arc_end.Given as goal

abbrev pub invariant-edges : goal.invariant-edges
invariant-edges g l = record {
  arc : IsArc (g.C.Chain.directions l.chain) (g.C.Chain.points l.chain) l.from l.to;
  before : l.before ≡ dot (g.C.Chain.directions l.chain l.from) (g.C.Chain.points l.chain (l.to - 1));
}

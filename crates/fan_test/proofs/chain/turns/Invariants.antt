use Rattle.std.specs.Prelude.{◌≡◌}
use Rattle.bounds_model.specs.Fans.{IsShort}
use Rattle.fan_test.specs.Chains.{Turns}
use Rattle.fan_test.specs.Directions.{direction_of}
use Rattle.fan_test.proofs.chain.turns.Given as goal

abbrev pub invariant-loop-i : goal.invariant-loop-i
invariant-loop-i g l = record {
  turns : Turns (g.C.Chain.directions l.chain) l.i;
  before : direction_of l.before ≡ g.C.Chain.directions l.chain l.i;
  short : IsShort (direction_of l.before);
}

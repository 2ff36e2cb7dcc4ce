use Rattle.std.proofs.Common.{◌∙◌, ap₂}
use Rattle.bounds_model.specs.Plane.{cross}
use Rattle.fan_test.proofs.Comparisons.{tested_positive}
use Rattle.fan_test.proofs.Steps.{turns_more}
use Rattle.fan_test.proofs.chain.turns.Goals as goal

pub loop-i-preserved : goal.loop-i-preserved
loop-i-preserved g c = record {
  turns = turns_more (g.C.Chain.directions c.args.chain.now) c.loop-i.i c.loop-i.invariant.turns
      (tested_positive c.cross.type_inv c.if-cross-le0.false (c.cross.ensures ∙ ap₂ cross c.loop-i.invariant.before c.direction-after.ensures.value));
  before = c.direction-after.ensures.value;
  short = c.direction-after.ensures.short;
}

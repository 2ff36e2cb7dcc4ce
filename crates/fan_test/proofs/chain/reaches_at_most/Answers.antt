use Rattle.std.proofs.Common.{refl}
use Rattle.fan_test.proofs.Comparisons.{tests_le}
use Rattle.fan_test.proofs.chain.reaches_at_most.Goals as goal

pub returns : goal.returns
returns c = tests_le c.dot.type_inv c.ranges.limit.sfits c.dot.ensures.value refl

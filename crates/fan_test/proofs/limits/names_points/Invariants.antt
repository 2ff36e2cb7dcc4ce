use Rattle.std.proofs.Common.{◌<◌}
use Rattle.std.specs.Prelude.{All, take}
use Rattle.answers.specs.Answers.{half_cone_of}
use Rattle.fan_test.proofs.limits.names_points.Given as goal

abbrev pub invariant-loop-i : goal.invariant-loop-i
invariant-loop-i l = All (λ c. ((half_cone_of c).high < l.count) × ((half_cone_of c).low < l.count)) (take l.i l.fan.cones)

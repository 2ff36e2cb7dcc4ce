use Rattle.std.proofs.Common.{◌<◌}
use Rattle.std.specs.Prelude.{All, take}
use Rattle.answers.specs.Answers.{quarter_cone_of}
use Rattle.fan_test.proofs.limits.names_all_points.Given as goal

abbrev pub invariant-loop-i : goal.invariant-loop-i
invariant-loop-i l = All (λ c. ((quarter_cone_of c).high < l.count) × ((quarter_cone_of c).low < l.count) × ((quarter_cone_of c).over < l.count) × ((quarter_cone_of c).under < l.count)) (take l.i l.fan.cones)

use Rattle.std.proofs.Common.{◌≡◌, map, take, length}
use Rattle.answers.specs.Answers.{entry_of}
use Rattle.bounds_model.specs.FurthestAnswer.{corner_numbers}
use Rattle.furthest_check.proofs.limits.numbers_of.Given as goal

abbrev pub invariant-entries : goal.invariant-entries
invariant-entries l = (length l.numbers ≡ 10000) × (take l.i l.numbers ≡ corner_numbers (map entry_of (take l.i l.entries)))

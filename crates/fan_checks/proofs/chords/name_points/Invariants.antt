use Rattle.std.specs.Prelude.{All, take}
use Rattle.answers.specs.Answers.{chord_of}
use Rattle.fan_checks.specs.Limits.{AreBelow}
use Rattle.fan_checks.proofs.chords.name_points.Given as goal

abbrev pub invariant-loop-i : goal.invariant-loop-i
invariant-loop-i l = All (λ chord. AreBelow l.count (chord_of chord)) (take l.i l.chords)

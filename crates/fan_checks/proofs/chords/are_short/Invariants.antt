use Rattle.std.specs.Prelude.{All, take}
use Rattle.bounds_model.specs.ParallelogramAnswer.{IsShortChord}
use Rattle.answers.specs.Answers.{chord_of}
use Rattle.fan_checks.proofs.chords.are_short.Given as goal

abbrev pub invariant-loop-i : goal.invariant-loop-i
invariant-loop-i l = All (λ chord. IsShortChord (chord_of chord)) (take l.i l.chords)

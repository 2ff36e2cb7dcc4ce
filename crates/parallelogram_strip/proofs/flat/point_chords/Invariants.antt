use Rattle.std.proofs.Common.{◌≡◌, length, All}
use Rattle.answers.specs.Answers.{chord_of}
use Rattle.parallelogram_strip.specs.Flat.{point_chord}
use Rattle.parallelogram_strip.proofs.flat.point_chords.Given as goal

abbrev pub invariant-loop : goal.invariant-loop
invariant-loop l = record {
  count : length l.chords ≡ l.counter;
  all : All (λ c. chord_of c ≡ point_chord) l.chords;
}

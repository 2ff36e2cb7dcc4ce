-- A parallelogram that passes, and spoilt ones that do not.
use Rattle.std.proofs.Common.{refl, pos, List, [], ◌∷◌}
use Rattle.bounds_model.specs.ParallelogramAnswer.{Chord, ParallelogramAnswer}
use Rattle.bounds_model.specs.Asks.Ask.{ask_parallelogram}
use Rattle.bounds_model.specs.Asks.Sets.{plane}
use Rattle.bounds_model.specs.Answers.{Passes}
use Rattle.bounds_model.specs.Answers.Answer.{parallelogram}
use Rattle.model_laws.proofs.Decisions.{by_test, by_failed_test, by_one_failure}
use Rattle.model_laws.proofs.DecideAnswers.{passes}
use Rattle.model_laws.proofs.ExampleBalls.{triangle}
use Rattle.model_laws.proofs.Literals.{minus, at, left_at, fraction, span, half_cone, chord}

-- the axis-parallel parallelogram around the triangle with these chords
abbrev with_chords : List Chord → ParallelogramAnswer
with_chords chords = record {
  size = fraction 12 1;
  first = at 1 0;
  first_bounds = span (pos 0) (pos 4);
  second = at 0 1;
  second_bounds = span (pos 0) (pos 3);
  fan = record { cones = half_cone 1 0 1 0 ∷ half_cone 3 4 2 0 ∷ half_cone 0 1 2 1 ∷ []; last = left_at 1 0 };
  chords = chords;
}

-- the chords of the first three directions
abbrev first_three : List Chord → List Chord
first_three rest = chord 0 2 2 1 0 (pos 3) ∷ chord 1 2 2 1 0 (pos 1) ∷ chord 0 1 1 1 0 (minus 4) ∷ rest

abbrev pub axis_parallel : ParallelogramAnswer
axis_parallel = with_chords (first_three (chord 0 2 2 1 0 (minus 3) ∷ []))

axis_parallel_passes : Passes ask_parallelogram (plane triangle) (parallelogram axis_parallel)
axis_parallel_passes = by_test (passes ask_parallelogram (plane triangle) (parallelogram axis_parallel)) refl

-- the last chord turned round, or left out
abbrev turned : ParallelogramAnswer
turned = with_chords (first_three (chord 0 2 2 1 0 (pos 3) ∷ []))

turned_fails : ¬ Passes ask_parallelogram (plane triangle) (parallelogram turned)
turned_fails = by_one_failure (passes ask_parallelogram (plane triangle) (parallelogram turned)) refl refl

abbrev one_too_few : ParallelogramAnswer
one_too_few = with_chords (first_three [])

one_too_few_fails : ¬ Passes ask_parallelogram (plane triangle) (parallelogram one_too_few)
one_too_few_fails = by_failed_test (passes ask_parallelogram (plane triangle) (parallelogram one_too_few)) refl

-- a chord without weight, of length 0
abbrev empty_chord : ParallelogramAnswer
empty_chord = with_chords (first_three (chord 0 2 2 0 0 (pos 0) ∷ []))

empty_chord_fails : ¬ Passes ask_parallelogram (plane triangle) (parallelogram empty_chord)
empty_chord_fails = by_one_failure (passes ask_parallelogram (plane triangle) (parallelogram empty_chord)) refl refl

-- a chord that is too short
abbrev short_chord : ParallelogramAnswer
short_chord = with_chords (first_three (chord 0 2 0 1 1 (minus 3) ∷ []))

short_chord_fails : ¬ Passes ask_parallelogram (plane triangle) (parallelogram short_chord)
short_chord_fails = by_one_failure (passes ask_parallelogram (plane triangle) (parallelogram short_chord)) refl refl

-- a parallelogram with room to spare
abbrev roomy : ParallelogramAnswer
roomy = record axis_parallel { size = fraction 15 1; first_bounds = span (pos 0) (pos 5) }

roomy_fails : ¬ Passes ask_parallelogram (plane triangle) (parallelogram roomy)
roomy_fails = by_one_failure (passes ask_parallelogram (plane triangle) (parallelogram roomy)) refl refl

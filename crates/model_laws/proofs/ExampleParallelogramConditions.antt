-- Parallelograms that fail in one of the conditions of a checker alone.
use Rattle.std.proofs.Common.{refl, ℕ, pos, List, [], ◌∷◌}
use Rattle.bounds_model.specs.Plane.{PlanePoint}
use Rattle.bounds_model.specs.Fractions.{Fraction}
use Rattle.bounds_model.specs.Strip.{Span}
use Rattle.bounds_model.specs.Fans.{HalfCone}
use Rattle.bounds_model.specs.ParallelogramAnswer.{Chord, ParallelogramAnswer, PassesParallelogram}
use Rattle.model_laws.proofs.Decisions.{by_test, by_one_failure}
use Rattle.model_laws.proofs.DecideFans.{parallelogram_passes}
use Rattle.model_laws.proofs.ExampleBalls.{triangle}
use Rattle.model_laws.proofs.Literals.{minus, at, left_at, fraction, span, half_cone, chord, slanted}

-- ---- around a triangle with a right angle

abbrev axis_parallel : Fraction → Span → Span → Chord → Chord → ParallelogramAnswer
axis_parallel size first_bounds second_bounds first last =
    slanted size (at 1 0) first_bounds (at 0 1) second_bounds (half_cone 1 0 1 0 ∷ half_cone 3 4 2 0 ∷ half_cone 0 1 2 1 ∷ [])
    (first ∷ chord 1 2 2 1 0 (pos 1) ∷ chord 0 1 1 1 0 (minus 4) ∷ last ∷ [])

abbrev first_chord : Chord
first_chord = chord 0 2 2 1 0 (pos 3)

abbrev last_chord : Chord
last_chord = chord 0 2 2 1 0 (minus 3)

-- the same with other chords at its ends
abbrev with_chords : Chord → Chord → ParallelogramAnswer
with_chords = axis_parallel (fraction 12 1) (span (pos 0) (pos 4)) (span (pos 0) (pos 3))

smallest : PassesParallelogram triangle (with_chords first_chord last_chord)
smallest = by_test (parallelogram_passes triangle (with_chords first_chord last_chord)) refl

by_gamma : PassesParallelogram triangle (with_chords (chord 0 2 2 0 1 (pos 3)) last_chord)
by_gamma = by_test (parallelogram_passes triangle (with_chords (chord 0 2 2 0 1 (pos 3)) last_chord)) refl

by_both : PassesParallelogram triangle (with_chords (chord 0 2 2 1 1 (pos 6)) last_chord)
by_both = by_test (parallelogram_passes triangle (with_chords (chord 0 2 2 1 1 (pos 6)) last_chord)) refl

abbrev unreduced : ParallelogramAnswer
unreduced = axis_parallel (fraction 24 2) (span (pos 0) (pos 4)) (span (pos 0) (pos 3)) first_chord last_chord

unreduced_fails : ¬ PassesParallelogram triangle unreduced
unreduced_fails = by_one_failure (parallelogram_passes triangle unreduced) refl refl

abbrev other_size : ParallelogramAnswer
other_size = axis_parallel (fraction 11 1) (span (pos 0) (pos 4)) (span (pos 0) (pos 3)) first_chord last_chord

other_size_fails : ¬ PassesParallelogram triangle other_size
other_size_fails = by_one_failure (parallelogram_passes triangle other_size) refl refl

abbrev first_too_short : ParallelogramAnswer
first_too_short = axis_parallel (fraction 9 1) (span (pos 0) (pos 3)) (span (pos 0) (pos 3)) first_chord last_chord

first_too_short_fails : ¬ PassesParallelogram triangle first_too_short
first_too_short_fails = by_one_failure (parallelogram_passes triangle first_too_short) refl refl

abbrev second_too_short : ParallelogramAnswer
second_too_short = axis_parallel (fraction 8 1) (span (pos 0) (pos 4)) (span (pos 0) (pos 2)) first_chord last_chord

second_too_short_fails : ¬ PassesParallelogram triangle second_too_short
second_too_short_fails = by_one_failure (parallelogram_passes triangle second_too_short) refl refl

-- a chord turned round, or too short: gamma adds weight, and no length
turned : ¬ PassesParallelogram triangle (with_chords first_chord (chord 0 2 2 1 0 (pos 3)))
turned = by_one_failure (parallelogram_passes triangle (with_chords first_chord (chord 0 2 2 1 0 (pos 3)))) refl refl

short : ¬ PassesParallelogram triangle (with_chords first_chord (chord 0 2 0 1 1 (minus 3)))
short = by_one_failure (parallelogram_passes triangle (with_chords first_chord (chord 0 2 0 1 1 (minus 3)))) refl refl

short_first : ¬ PassesParallelogram triangle (with_chords (chord 0 2 0 1 1 (pos 3)) last_chord)
short_first = by_one_failure (parallelogram_passes triangle (with_chords (chord 0 2 0 1 1 (pos 3)) last_chord)) refl refl

-- numbers that are no points', of the origin or without weight
a_beyond : ¬ PassesParallelogram triangle (with_chords (chord 9 2 2 1 0 (pos 3)) last_chord)
a_beyond = by_one_failure (parallelogram_passes triangle (with_chords (chord 9 2 2 1 0 (pos 3)) last_chord)) refl refl

b_beyond : ¬ PassesParallelogram triangle (with_chords (chord 0 9 2 0 1 (pos 3)) last_chord)
b_beyond = by_one_failure (parallelogram_passes triangle (with_chords (chord 0 9 2 0 1 (pos 3)) last_chord)) refl refl

c_beyond : ¬ PassesParallelogram triangle (with_chords (chord 0 2 9 1 0 (pos 3)) last_chord)
c_beyond = by_one_failure (parallelogram_passes triangle (with_chords (chord 0 2 9 1 0 (pos 3)) last_chord)) refl refl

-- ---- chords from a corner to the middle of a side

abbrev even : List PlanePoint
even = at 0 0 ∷ at 4 0 ∷ at 2 3 ∷ []

abbrev even_cones : List HalfCone
even_cones = half_cone 1 0 1 0 ∷ half_cone 3 2 2 0 ∷ half_cone 0 1 2 1 ∷ record { direction = left_at 3 2; high = 0; low = 1 } ∷ []

-- the vertical chord from the third corner, with these weights
abbrev to_middle : ℕ → ℕ → ParallelogramAnswer
to_middle beta gamma =
    slanted (fraction 12 1) (at 0 1) (span (pos 0) (pos 3)) (at 3 2) (span (pos 0) (pos 12)) even_cones
    (chord 2 0 1 beta gamma (minus 6) ∷ chord 1 2 2 1 0 (pos 1) ∷ chord 0 1 1 1 0 (minus 4) ∷ chord 2 0 0 1 0 (pos 1) ∷ chord 2 0 1 1 1 (pos 6) ∷ [])

middle : PassesParallelogram even (to_middle 1 1)
middle = by_test (parallelogram_passes even (to_middle 1 1)) refl

aslant : ¬ PassesParallelogram even (to_middle 1 0)
aslant = by_one_failure (parallelogram_passes even (to_middle 1 0)) refl refl

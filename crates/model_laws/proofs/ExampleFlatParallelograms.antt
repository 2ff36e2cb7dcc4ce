-- Parallelograms around points on a line that fail in one of the conditions of a checker alone.
use Rattle.std.proofs.Common.{refl, ℕ, ◌+◌, ◌^◌, pos, List, [], ◌∷◌}
use Rattle.bounds_model.specs.Plane.{PlanePoint}
use Rattle.bounds_model.specs.Strip.{Span}
use Rattle.bounds_model.specs.Fans.{HalfCone}
use Rattle.bounds_model.specs.ParallelogramAnswer.{Chord, ParallelogramAnswer, PassesParallelogram}
use Rattle.model_laws.proofs.Decisions.{by_test, by_one_failure}
use Rattle.model_laws.proofs.DecideFans.{parallelogram_passes}
use Rattle.model_laws.proofs.Literals.{minus, at, fraction, span, half_cone, chord, slanted}

-- ---- around points on a line, with a size of 0

abbrev on_line : ℕ → List PlanePoint
on_line x = at 0 0 ∷ at x 0 ∷ []

-- no chord at all
abbrev none : Chord
none = chord 0 0 0 1 0 (pos 0)

abbrev cones : List HalfCone
cones = half_cone 1 0 1 0 ∷ half_cone 0 1 0 1 ∷ []

abbrev level : ℕ → List HalfCone → List Chord → ParallelogramAnswer
level x = slanted (fraction 0 1) (at 1 0) (span (pos 0) (pos x)) (at 0 1) (span (pos 0) (pos 0))

thin : PassesParallelogram (on_line 2) (level 2 cones (none ∷ none ∷ none ∷ []))
thin = by_test (parallelogram_passes (on_line 2) (level 2 cones (none ∷ none ∷ none ∷ []))) refl

one_more_chord : ¬ PassesParallelogram (on_line 2) (level 2 cones (none ∷ none ∷ none ∷ none ∷ []))
one_more_chord = by_one_failure (parallelogram_passes (on_line 2) (level 2 cones (none ∷ none ∷ none ∷ none ∷ []))) refl refl

no_weight : ¬ PassesParallelogram (on_line 2) (level 2 cones (none ∷ none ∷ chord 0 0 0 0 0 (pos 0) ∷ []))
no_weight = by_one_failure (parallelogram_passes (on_line 2) (level 2 cones (none ∷ none ∷ chord 0 0 0 0 0 (pos 0) ∷ []))) refl refl

heaviest : PassesParallelogram (on_line 2) (level 2 cones (none ∷ none ∷ chord 0 0 0 (2 ^ 38) (2 ^ 38) (pos 0) ∷ []))
heaviest = by_test (parallelogram_passes (on_line 2) (level 2 cones (none ∷ none ∷ chord 0 0 0 (2 ^ 38) (2 ^ 38) (pos 0) ∷ []))) refl

too_heavy : ¬ PassesParallelogram (on_line 2) (level 2 cones (none ∷ none ∷ chord 0 0 0 (2 ^ 38) (2 ^ 38 + 1) (pos 0) ∷ []))
too_heavy = by_one_failure (parallelogram_passes (on_line 2) (level 2 cones (none ∷ none ∷ chord 0 0 0 (2 ^ 38) (2 ^ 38 + 1) (pos 0) ∷ []))) refl refl

low_beyond : ¬ PassesParallelogram (on_line 2) (level 2 (half_cone 1 0 1 9 ∷ half_cone 0 1 0 1 ∷ []) (none ∷ none ∷ none ∷ []))
low_beyond =
    by_one_failure (parallelogram_passes (on_line 2) (level 2 (half_cone 1 0 1 9 ∷ half_cone 0 1 0 1 ∷ []) (none ∷ none ∷ none ∷ []))) refl refl

not_highest : ¬ PassesParallelogram (on_line 2) (level 2 (half_cone 1 0 0 0 ∷ half_cone 0 1 0 1 ∷ []) (none ∷ none ∷ none ∷ []))
not_highest =
    by_one_failure (parallelogram_passes (on_line 2) (level 2 (half_cone 1 0 0 0 ∷ half_cone 0 1 0 1 ∷ []) (none ∷ none ∷ none ∷ []))) refl refl

begun_late : ¬ PassesParallelogram (on_line 2) (level 2 (half_cone 0 1 0 1 ∷ []) (none ∷ none ∷ []))
begun_late = by_one_failure (parallelogram_passes (on_line 2) (level 2 (half_cone 0 1 0 1 ∷ []) (none ∷ none ∷ []))) refl refl

abbrev long_in_fan : ParallelogramAnswer
long_in_fan = level 2 (half_cone 1 0 1 0 ∷ half_cone 1 400001 1 0 ∷ half_cone 0 1 0 1 ∷ []) (none ∷ none ∷ none ∷ none ∷ [])

long_in_fan_fails : ¬ PassesParallelogram (on_line 2) long_in_fan
long_in_fan_fails = by_one_failure (parallelogram_passes (on_line 2) long_in_fan) refl refl

abbrev with_normals : PlanePoint → Span → PlanePoint → Span → ParallelogramAnswer
with_normals first first_bounds second second_bounds = slanted (fraction 0 1) first first_bounds second second_bounds cones (none ∷ none ∷ none ∷ [])

abbrev long_first : ParallelogramAnswer
long_first = with_normals (at 400001 0) (span (pos 0) (pos 800002)) (at 0 1) (span (pos 0) (pos 0))

long_first_fails : ¬ PassesParallelogram (on_line 2) long_first
long_first_fails = by_one_failure (parallelogram_passes (on_line 2) long_first) refl refl

long_second : ¬ PassesParallelogram (on_line 2) (with_normals (at 1 0) (span (pos 0) (pos 2)) (at 0 400001) (span (pos 0) (pos 0)))
long_second =
    by_one_failure (parallelogram_passes (on_line 2) (with_normals (at 1 0) (span (pos 0) (pos 2)) (at 0 400001) (span (pos 0) (pos 0)))) refl refl

parallel : ¬ PassesParallelogram (on_line 2) (with_normals (at 0 1) (span (pos 0) (pos 0)) (at 0 2) (span (pos 0) (pos 0)))
parallel = by_one_failure (parallelogram_passes (on_line 2) (with_normals (at 0 1) (span (pos 0) (pos 0)) (at 0 2) (span (pos 0) (pos 0)))) refl refl

-- ---- two points far apart

abbrev past : ℕ
past = 2 ^ 40 + 1

first_too_wide : ¬ PassesParallelogram (on_line past) (with_normals (at 1 0) (span (pos 0) (pos past)) (at 0 1) (span (pos 0) (pos 0)))
first_too_wide =
    by_one_failure (parallelogram_passes (on_line past) (with_normals (at 1 0) (span (pos 0) (pos past)) (at 0 1) (span (pos 0) (pos 0)))) refl refl

second_too_wide : ¬ PassesParallelogram (on_line past) (with_normals (at 0 1) (span (pos 0) (pos 0)) (at 1 0) (span (pos 0) (pos past)))
second_too_wide =
    by_one_failure (parallelogram_passes (on_line past) (with_normals (at 0 1) (span (pos 0) (pos 0)) (at 1 0) (span (pos 0) (pos past)))) refl refl

abbrev long_chord : ℕ → ParallelogramAnswer
long_chord x = level x cones (none ∷ chord 0 1 1 1 0 (minus x) ∷ none ∷ [])

longest : PassesParallelogram (on_line (2 ^ 39)) (long_chord (2 ^ 39))
longest = by_test (parallelogram_passes (on_line (2 ^ 39)) (long_chord (2 ^ 39))) refl

too_long : ¬ PassesParallelogram (on_line (2 ^ 39 + 1)) (long_chord (2 ^ 39 + 1))
too_long = by_one_failure (parallelogram_passes (on_line (2 ^ 39 + 1)) (long_chord (2 ^ 39 + 1))) refl refl

-- Ranges of the numbers of rectangles and parallelograms: each one past its limit.
use Rattle.std.proofs.Common.{refl, ℕ, ◌+◌, ◌^◌, pos, [], ◌∷◌}
use Rattle.bounds_model.specs.RectangleAnswer.{RectangleAnswer, RectangleRanges}
use Rattle.bounds_model.specs.ParallelogramAnswer.{ParallelogramAnswer, ParallelogramRanges}
use Rattle.model_laws.proofs.Decisions.{by_test, by_one_failure}
use Rattle.model_laws.proofs.DecideFans.{rectangle_ranges, parallelogram_ranges}
use Rattle.model_laws.proofs.Literals.{minus, at, left_at, fraction, span, half_cone, quarter_cone, chord}

abbrev base : ParallelogramAnswer
base = record {
  size = fraction 0 1;
  first = at 1 0;
  first_bounds = span (pos 0) (pos 2);
  second = at 0 1;
  second_bounds = span (pos 0) (pos 0);
  fan = record { cones = half_cone 1 0 1 0 ∷ half_cone 0 1 0 1 ∷ []; last = left_at 1 0 };
  chords = chord 0 0 0 1 0 (pos 0) ∷ chord 0 0 0 1 0 (pos 0) ∷ chord 0 0 0 1 0 (pos 0) ∷ [];
}

abbrev past : ℕ
past = 2 ^ 126 + 1

-- ---- parallelograms

base_in_ranges : ParallelogramRanges base
base_in_ranges = by_test (parallelogram_ranges base) refl

size_past : ¬ ParallelogramRanges (record base { size = fraction past 1 })
size_past = by_one_failure (parallelogram_ranges (record base { size = fraction past 1 })) refl refl

first_past : ¬ ParallelogramRanges (record base { first = at past 0 })
first_past = by_one_failure (parallelogram_ranges (record base { first = at past 0 })) refl refl

first_bounds_past : ¬ ParallelogramRanges (record base { first_bounds = span (pos 0) (pos past) })
first_bounds_past = by_one_failure (parallelogram_ranges (record base { first_bounds = span (pos 0) (pos past) })) refl refl

second_past : ¬ ParallelogramRanges (record base { second = at 0 past })
second_past = by_one_failure (parallelogram_ranges (record base { second = at 0 past })) refl refl

second_bounds_past : ¬ ParallelogramRanges (record base { second_bounds = span (minus past) (pos 0) })
second_bounds_past = by_one_failure (parallelogram_ranges (record base { second_bounds = span (minus past) (pos 0) })) refl refl

abbrev no_cones : ParallelogramAnswer
no_cones = record base { fan = record { cones = []; last = left_at 1 0 }; chords = chord 0 0 0 1 0 (pos 0) ∷ [] }

no_cones_fails : ¬ ParallelogramRanges no_cones
no_cones_fails = by_one_failure (parallelogram_ranges no_cones) refl refl

-- a chord for each direction, each in its range
no_chords : ¬ ParallelogramRanges (record base { chords = [] })
no_chords = by_one_failure (parallelogram_ranges (record base { chords = [] })) refl refl

abbrev chord_past : ParallelogramAnswer
chord_past = record base { chords = chord 0 0 0 1 0 (pos 0) ∷ chord 10000 0 0 1 0 (pos 0) ∷ chord 0 0 0 1 0 (pos 0) ∷ [] }

chord_past_fails : ¬ ParallelogramRanges chord_past
chord_past_fails = by_one_failure (parallelogram_ranges chord_past) refl refl

-- ---- rectangles

abbrev axis_parallel : RectangleAnswer
axis_parallel = record {
  size = fraction 0 1;
  direction = at 1 0;
  along = span (pos 0) (pos 2);
  across = span (pos 0) (pos 0);
  fan = record { cones = quarter_cone 1 0 1 0 0 1 ∷ []; last = at 0 1 };
}

axis_parallel_in_ranges : RectangleRanges axis_parallel
axis_parallel_in_ranges = by_test (rectangle_ranges axis_parallel) refl

axis_parallel_size_past : ¬ RectangleRanges (record axis_parallel { size = fraction past 1 })
axis_parallel_size_past = by_one_failure (rectangle_ranges (record axis_parallel { size = fraction past 1 })) refl refl

direction_past : ¬ RectangleRanges (record axis_parallel { direction = at past 0 })
direction_past = by_one_failure (rectangle_ranges (record axis_parallel { direction = at past 0 })) refl refl

along_past : ¬ RectangleRanges (record axis_parallel { along = span (pos 0) (pos past) })
along_past = by_one_failure (rectangle_ranges (record axis_parallel { along = span (pos 0) (pos past) })) refl refl

across_past : ¬ RectangleRanges (record axis_parallel { across = span (minus past) (pos 0) })
across_past = by_one_failure (rectangle_ranges (record axis_parallel { across = span (minus past) (pos 0) })) refl refl

no_axis_parallel_cones : ¬ RectangleRanges (record axis_parallel { fan = record { cones = []; last = at 0 1 } })
no_axis_parallel_cones = by_one_failure (rectangle_ranges (record axis_parallel { fan = record { cones = []; last = at 0 1 } })) refl refl

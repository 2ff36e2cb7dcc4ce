-- Strips, rectangles and parallelograms that fit points, and some that fail in one condition alone.
use Rattle.std.proofs.Common.{◌≡◌, refl, ℕ, pos, []}
use Rattle.bounds_model.specs.Plane.{PlanePoint}
use Rattle.bounds_model.specs.Strip.{Span, Strip, FitsStrip, strip_size}
use Rattle.bounds_model.specs.Rectangle.{Rectangle, FitsRectangle, rectangle_size}
use Rattle.bounds_model.specs.Parallelogram.{Parallelogram, FitsParallelogram, parallelogram_size}
use Rattle.model_laws.proofs.Decisions.{by_test, by_one_failure}
use Rattle.model_laws.proofs.DecideFits.{fits_strip, fits_rectangle, fits_parallelogram}
use Rattle.model_laws.proofs.ExampleBalls.{triangle}
use Rattle.model_laws.proofs.Literals.{minus, at, fraction, span}

-- ---- strips

abbrev strip : PlanePoint → Span → ℕ → Strip
strip normal bounds w = record { normal = normal; bounds = bounds; w = pos w }

along_longest : FitsStrip triangle (strip (at 3 4) (span (pos 0) (pos 24)) 2)
along_longest = by_test (fits_strip triangle (strip (at 3 4) (span (pos 0) (pos 24)) 2)) refl

width : strip_size (strip (at 3 4) (span (pos 0) (pos 24)) 2) ≡ fraction 576 100
width = refl

-- a bound that leaves points out; no normal, and a denominator of 0, under which every point would be inside
too_low : ¬ FitsStrip triangle (strip (at 3 4) (span (pos 0) (pos 23)) 2)
too_low = by_one_failure (fits_strip triangle (strip (at 3 4) (span (pos 0) (pos 23)) 2)) refl refl

too_high : ¬ FitsStrip triangle (strip (at 3 4) (span (pos 1) (pos 24)) 2)
too_high = by_one_failure (fits_strip triangle (strip (at 3 4) (span (pos 1) (pos 24)) 2)) refl refl

no_normal : ¬ FitsStrip triangle (strip (at 0 0) (span (pos 0) (pos 24)) 2)
no_normal = by_one_failure (fits_strip triangle (strip (at 0 0) (span (pos 0) (pos 24)) 2)) refl refl

over_zero : ¬ FitsStrip triangle (strip (at 3 4) (span (pos 0) (pos 24)) 0)
over_zero = by_one_failure (fits_strip triangle (strip (at 3 4) (span (pos 0) (pos 24)) 0)) refl refl

-- where there are points they tell the same
bounds_exchanged : ¬ FitsStrip [] (strip (at 3 4) (span (pos 24) (pos 0)) 2)
bounds_exchanged = by_one_failure (fits_strip [] (strip (at 3 4) (span (pos 24) (pos 0)) 2)) refl refl

-- ---- rectangles

abbrev rectangle : PlanePoint → Span → Span → ℕ → Rectangle
rectangle direction along across w = record { direction = direction; along = along; across = across; w = pos w }

on_longest : FitsRectangle triangle (rectangle (at 3 4) (span (pos 0) (pos 24)) (span (minus 32) (pos 18)) 2)
on_longest = by_test (fits_rectangle triangle (rectangle (at 3 4) (span (pos 0) (pos 24)) (span (minus 32) (pos 18)) 2)) refl

rectangle_area : rectangle_size (rectangle (at 3 4) (span (pos 0) (pos 24)) (span (minus 32) (pos 18)) 2) ≡ fraction 1200 100
rectangle_area = refl

too_short : ¬ FitsRectangle triangle (rectangle (at 3 4) (span (pos 0) (pos 23)) (span (minus 32) (pos 18)) 2)
too_short = by_one_failure (fits_rectangle triangle (rectangle (at 3 4) (span (pos 0) (pos 23)) (span (minus 32) (pos 18)) 2)) refl refl

too_narrow : ¬ FitsRectangle triangle (rectangle (at 3 4) (span (pos 0) (pos 24)) (span (minus 31) (pos 18)) 2)
too_narrow = by_one_failure (fits_rectangle triangle (rectangle (at 3 4) (span (pos 0) (pos 24)) (span (minus 31) (pos 18)) 2)) refl refl

-- as if the direction were turned to the right
turned_right : ¬ FitsRectangle triangle (rectangle (at 3 4) (span (pos 0) (pos 24)) (span (minus 18) (pos 32)) 2)
turned_right = by_one_failure (fits_rectangle triangle (rectangle (at 3 4) (span (pos 0) (pos 24)) (span (minus 18) (pos 32)) 2)) refl refl

no_direction : ¬ FitsRectangle triangle (rectangle (at 0 0) (span (pos 0) (pos 24)) (span (minus 32) (pos 18)) 2)
no_direction = by_one_failure (fits_rectangle triangle (rectangle (at 0 0) (span (pos 0) (pos 24)) (span (minus 32) (pos 18)) 2)) refl refl

rectangle_over_zero : ¬ FitsRectangle triangle (rectangle (at 3 4) (span (pos 0) (pos 24)) (span (minus 32) (pos 18)) 0)
rectangle_over_zero = by_one_failure (fits_rectangle triangle (rectangle (at 3 4) (span (pos 0) (pos 24)) (span (minus 32) (pos 18)) 0)) refl refl

along_exchanged : ¬ FitsRectangle [] (rectangle (at 3 4) (span (pos 24) (pos 0)) (span (minus 32) (pos 18)) 2)
along_exchanged = by_one_failure (fits_rectangle [] (rectangle (at 3 4) (span (pos 24) (pos 0)) (span (minus 32) (pos 18)) 2)) refl refl

across_exchanged : ¬ FitsRectangle [] (rectangle (at 3 4) (span (pos 0) (pos 24)) (span (pos 18) (minus 32)) 2)
across_exchanged = by_one_failure (fits_rectangle [] (rectangle (at 3 4) (span (pos 0) (pos 24)) (span (pos 18) (minus 32)) 2)) refl refl

-- ---- parallelograms

abbrev slanted : PlanePoint → Span → PlanePoint → Span → ℕ → Parallelogram
slanted first first_bounds second second_bounds w = record {
  first = first;
  first_bounds = first_bounds;
  second = second;
  second_bounds = second_bounds;
  w = pos w;
}

-- the second normal to the left of the first, or to the right
of_first_turn : FitsParallelogram triangle (slanted (at 1 0) (span (pos 0) (pos 8)) (at 1 1) (span (pos 0) (pos 8)) 2)
of_first_turn = by_test (fits_parallelogram triangle (slanted (at 1 0) (span (pos 0) (pos 8)) (at 1 1) (span (pos 0) (pos 8)) 2)) refl

of_other_turn : FitsParallelogram triangle (slanted (at 1 1) (span (pos 0) (pos 8)) (at 1 0) (span (pos 0) (pos 8)) 2)
of_other_turn = by_test (fits_parallelogram triangle (slanted (at 1 1) (span (pos 0) (pos 8)) (at 1 0) (span (pos 0) (pos 8)) 2)) refl

slanted_area : parallelogram_size (slanted (at 1 1) (span (pos 0) (pos 8)) (at 1 0) (span (pos 0) (pos 8)) 2) ≡ fraction 64 4
slanted_area = refl

steeper_area : parallelogram_size (slanted (at 1 0) (span (pos 0) (pos 8)) (at 1 2) (span (pos 0) (pos 12)) 2) ≡ fraction 96 8
steeper_area = refl

first_too_short : ¬ FitsParallelogram triangle (slanted (at 1 0) (span (pos 0) (pos 7)) (at 1 1) (span (pos 0) (pos 8)) 2)
first_too_short = by_one_failure (fits_parallelogram triangle (slanted (at 1 0) (span (pos 0) (pos 7)) (at 1 1) (span (pos 0) (pos 8)) 2)) refl refl

second_too_short : ¬ FitsParallelogram triangle (slanted (at 1 0) (span (pos 0) (pos 8)) (at 1 1) (span (pos 0) (pos 7)) 2)
second_too_short = by_one_failure (fits_parallelogram triangle (slanted (at 1 0) (span (pos 0) (pos 8)) (at 1 1) (span (pos 0) (pos 7)) 2)) refl refl

parallel : ¬ FitsParallelogram triangle (slanted (at 1 0) (span (pos 0) (pos 8)) (at 2 0) (span (pos 0) (pos 16)) 2)
parallel = by_one_failure (fits_parallelogram triangle (slanted (at 1 0) (span (pos 0) (pos 8)) (at 2 0) (span (pos 0) (pos 16)) 2)) refl refl

slanted_over_zero : ¬ FitsParallelogram triangle (slanted (at 1 0) (span (pos 0) (pos 8)) (at 1 1) (span (pos 0) (pos 8)) 0)
slanted_over_zero = by_one_failure (fits_parallelogram triangle (slanted (at 1 0) (span (pos 0) (pos 8)) (at 1 1) (span (pos 0) (pos 8)) 0)) refl refl

first_exchanged : ¬ FitsParallelogram [] (slanted (at 1 0) (span (pos 8) (pos 0)) (at 1 1) (span (pos 0) (pos 8)) 2)
first_exchanged = by_one_failure (fits_parallelogram [] (slanted (at 1 0) (span (pos 8) (pos 0)) (at 1 1) (span (pos 0) (pos 8)) 2)) refl refl

second_exchanged : ¬ FitsParallelogram [] (slanted (at 1 0) (span (pos 0) (pos 8)) (at 1 1) (span (pos 8) (pos 0)) 2)
second_exchanged = by_one_failure (fits_parallelogram [] (slanted (at 1 0) (span (pos 0) (pos 8)) (at 1 1) (span (pos 8) (pos 0)) 2)) refl refl

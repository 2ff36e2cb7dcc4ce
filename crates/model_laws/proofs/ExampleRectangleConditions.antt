-- Rectangles that pass, and rectangles that fail in conditions of a checker, most of them in one alone.
use Rattle.std.proofs.Common.{refl, ℕ, ◌+◌, ◌^◌, pos, List, [], ◌∷◌}
use Rattle.bounds_model.specs.Plane.{PlanePoint}
use Rattle.bounds_model.specs.Fractions.{Fraction}
use Rattle.bounds_model.specs.Strip.{Span}
use Rattle.bounds_model.specs.Fans.{QuarterCone}
use Rattle.bounds_model.specs.RectangleAnswer.{RectangleAnswer, PassesRectangle}
use Rattle.model_laws.proofs.Decisions.{by_test, by_failed_test, by_one_failure}
use Rattle.model_laws.proofs.DecideFans.{rectangle_passes}
use Rattle.model_laws.proofs.ExampleRectangles.{diamond}
use Rattle.model_laws.proofs.Literals.{minus, at, left_at, fraction, span, quarter_cone}

-- a rectangle with the fan of these cones, which ends in the north
abbrev rectangle : Fraction → PlanePoint → Span → Span → List QuarterCone → RectangleAnswer
rectangle size direction along across cones = record {
  size = size;
  direction = direction;
  along = along;
  across = across;
  fan = record { cones = cones; last = at 0 1 };
}

-- ---- around a square that stands on a corner

abbrev first_cone : QuarterCone
first_cone = quarter_cone 1 0 2 0 3 1

abbrev second_cone : QuarterCone
second_cone = quarter_cone 1 1 3 1 0 2

abbrev slanted : Fraction → Span → Span → List QuarterCone → RectangleAnswer
slanted size along across cones = rectangle size (at 1 1) along across cones

-- the same with its own bounds
abbrev with_cones : List QuarterCone → RectangleAnswer
with_cones = slanted (fraction 2 1) (span (pos 1) (pos 3)) (span (minus 1) (pos 1))

abbrev whole : List QuarterCone
whole = first_cone ∷ second_cone ∷ []

smallest : PassesRectangle diamond (with_cones whole)
smallest = by_test (rectangle_passes diamond (with_cones whole)) refl

unreduced : ¬ PassesRectangle diamond (slanted (fraction 4 2) (span (pos 1) (pos 3)) (span (minus 1) (pos 1)) whole)
unreduced = by_one_failure (rectangle_passes diamond (slanted (fraction 4 2) (span (pos 1) (pos 3)) (span (minus 1) (pos 1)) whole)) refl refl

other_size : ¬ PassesRectangle diamond (slanted (fraction 1 1) (span (pos 1) (pos 3)) (span (minus 1) (pos 1)) whole)
other_size = by_one_failure (rectangle_passes diamond (slanted (fraction 1 1) (span (pos 1) (pos 3)) (span (minus 1) (pos 1)) whole)) refl refl

-- bounds that leave a point out, and a rectangle that is not the smallest
too_short : ¬ PassesRectangle diamond (slanted (fraction 1 1) (span (pos 1) (pos 2)) (span (minus 1) (pos 1)) whole)
too_short = by_failed_test (rectangle_passes diamond (slanted (fraction 1 1) (span (pos 1) (pos 2)) (span (minus 1) (pos 1)) whole)) refl

too_narrow : ¬ PassesRectangle diamond (slanted (fraction 1 1) (span (pos 1) (pos 3)) (span (pos 0) (pos 1)) whole)
too_narrow = by_failed_test (rectangle_passes diamond (slanted (fraction 1 1) (span (pos 1) (pos 3)) (span (pos 0) (pos 1)) whole)) refl

axis_parallel : ¬ PassesRectangle diamond (rectangle (fraction 4 1) (at 1 0) (span (pos 0) (pos 2)) (span (pos 0) (pos 2)) whole)
axis_parallel = by_one_failure (rectangle_passes diamond (rectangle (fraction 4 1) (at 1 0) (span (pos 0) (pos 2)) (span (pos 0) (pos 2)) whole)) refl refl

no_direction : ¬ PassesRectangle diamond (rectangle (fraction 0 1) (at 0 0) (span (pos 0) (pos 0)) (span (pos 0) (pos 0)) whole)
no_direction =
    by_failed_test (rectangle_passes diamond (rectangle (fraction 0 1) (at 0 0) (span (pos 0) (pos 0)) (span (pos 0) (pos 0)) whole)) refl

-- a fan that begins late, stands still, or ends early
begun_late : ¬ PassesRectangle diamond (with_cones (second_cone ∷ []))
begun_late = by_one_failure (rectangle_passes diamond (with_cones (second_cone ∷ []))) refl refl

standing : ¬ PassesRectangle diamond (with_cones (first_cone ∷ second_cone ∷ second_cone ∷ []))
standing = by_one_failure (rectangle_passes diamond (with_cones (first_cone ∷ second_cone ∷ second_cone ∷ []))) refl refl

ended_early : ¬ PassesRectangle diamond (record (with_cones whole) { fan = record { cones = first_cone ∷ []; last = at 1 1 } })
ended_early =
    by_failed_test (rectangle_passes diamond (record (with_cones whole) { fan = record { cones = first_cone ∷ []; last = at 1 1 } })) refl

-- ---- around three points on a line, with a size of 0

abbrev from_origin : List PlanePoint
from_origin = at 0 0 ∷ at 1 0 ∷ at 2 0 ∷ []

abbrev to_origin : List PlanePoint
to_origin = left_at 2 0 ∷ left_at 1 0 ∷ at 0 0 ∷ []

abbrev level : List QuarterCone → RectangleAnswer
level = rectangle (fraction 0 1) (at 1 0) (span (pos 0) (pos 2)) (span (pos 0) (pos 0))

abbrev level_left : List QuarterCone → RectangleAnswer
level_left = rectangle (fraction 0 1) (at 1 0) (span (minus 2) (pos 0)) (span (pos 0) (pos 0))

thin : PassesRectangle from_origin (level (quarter_cone 1 0 2 0 0 2 ∷ []))
thin = by_test (rectangle_passes from_origin (level (quarter_cone 1 0 2 0 0 2 ∷ []))) refl

not_highest : ¬ PassesRectangle from_origin (level (quarter_cone 1 0 1 0 0 2 ∷ []))
not_highest = by_one_failure (rectangle_passes from_origin (level (quarter_cone 1 0 1 0 0 2 ∷ []))) refl refl

not_lowest : ¬ PassesRectangle from_origin (level (quarter_cone 1 0 2 1 0 2 ∷ []))
not_lowest = by_one_failure (rectangle_passes from_origin (level (quarter_cone 1 0 2 1 0 2 ∷ []))) refl refl

not_over : ¬ PassesRectangle from_origin (level (quarter_cone 1 0 2 0 1 2 ∷ []))
not_over = by_one_failure (rectangle_passes from_origin (level (quarter_cone 1 0 2 0 1 2 ∷ []))) refl refl

not_under : ¬ PassesRectangle from_origin (level (quarter_cone 1 0 2 0 0 1 ∷ []))
not_under = by_one_failure (rectangle_passes from_origin (level (quarter_cone 1 0 2 0 0 1 ∷ []))) refl refl

-- numbers that are no points', where the point would be the origin
low_beyond : ¬ PassesRectangle from_origin (level (quarter_cone 1 0 2 9 0 2 ∷ []))
low_beyond = by_one_failure (rectangle_passes from_origin (level (quarter_cone 1 0 2 9 0 2 ∷ []))) refl refl

over_beyond : ¬ PassesRectangle from_origin (level (quarter_cone 1 0 2 0 9 2 ∷ []))
over_beyond = by_one_failure (rectangle_passes from_origin (level (quarter_cone 1 0 2 0 9 2 ∷ []))) refl refl

high_beyond : ¬ PassesRectangle to_origin (level_left (quarter_cone 1 0 9 0 0 2 ∷ []))
high_beyond = by_one_failure (rectangle_passes to_origin (level_left (quarter_cone 1 0 9 0 0 2 ∷ []))) refl refl

under_beyond : ¬ PassesRectangle to_origin (level_left (quarter_cone 1 0 2 0 0 9 ∷ []))
under_beyond = by_one_failure (rectangle_passes to_origin (level_left (quarter_cone 1 0 2 0 0 9 ∷ []))) refl refl

longest : PassesRectangle from_origin (level (quarter_cone 1 0 2 0 0 2 ∷ quarter_cone 1 400000 2 0 0 2 ∷ []))
longest = by_test (rectangle_passes from_origin (level (quarter_cone 1 0 2 0 0 2 ∷ quarter_cone 1 400000 2 0 0 2 ∷ []))) refl

long_in_fan : ¬ PassesRectangle from_origin (level (quarter_cone 1 0 2 0 0 2 ∷ quarter_cone 1 400001 2 0 0 2 ∷ []))
long_in_fan = by_one_failure (rectangle_passes from_origin (level (quarter_cone 1 0 2 0 0 2 ∷ quarter_cone 1 400001 2 0 0 2 ∷ []))) refl refl

abbrev long_direction : RectangleAnswer
long_direction = rectangle (fraction 0 1) (at 400001 0) (span (pos 0) (pos 800002)) (span (pos 0) (pos 0)) (quarter_cone 1 0 2 0 0 2 ∷ [])

long_direction_fails : ¬ PassesRectangle from_origin long_direction
long_direction_fails = by_failed_test (rectangle_passes from_origin long_direction) refl

-- ---- around a right triangle, whose longest side gives a second rectangle of the same area

abbrev triangle : List PlanePoint
triangle = at 0 0 ∷ at 4 0 ∷ at 0 3 ∷ []

abbrev triangle_cones : List QuarterCone
triangle_cones = quarter_cone 1 0 1 0 2 1 ∷ quarter_cone 3 4 2 0 2 1 ∷ []

upright : PassesRectangle triangle (rectangle (fraction 12 1) (at 1 0) (span (pos 0) (pos 4)) (span (pos 0) (pos 3)) triangle_cones)
upright = by_test (rectangle_passes triangle (rectangle (fraction 12 1) (at 1 0) (span (pos 0) (pos 4)) (span (pos 0) (pos 3)) triangle_cones)) refl

abbrev later : RectangleAnswer
later = rectangle (fraction 12 1) (at 3 4) (span (pos 0) (pos 12)) (span (minus 16) (pos 9)) triangle_cones

later_fails : ¬ PassesRectangle triangle later
later_fails = by_one_failure (rectangle_passes triangle later) refl refl

-- ---- two points far apart

abbrev far_cone : QuarterCone
far_cone = quarter_cone 1 0 1 0 0 1

abbrev past : ℕ
past = 2 ^ 40 + 1

abbrev two_far : List PlanePoint
two_far = at 0 0 ∷ at past 0 ∷ []

abbrev too_long : RectangleAnswer
too_long = rectangle (fraction 0 1) (at 1 0) (span (pos 0) (pos past)) (span (pos 0) (pos 0)) (far_cone ∷ [])

too_long_fails : ¬ PassesRectangle two_far too_long
too_long_fails = by_one_failure (rectangle_passes two_far too_long) refl refl

abbrev too_broad : RectangleAnswer
too_broad = rectangle (fraction 0 1) (at 0 1) (span (pos 0) (pos 0)) (span (minus past) (pos 0)) (far_cone ∷ [])

too_broad_fails : ¬ PassesRectangle two_far too_broad
too_broad_fails = by_failed_test (rectangle_passes two_far too_broad) refl

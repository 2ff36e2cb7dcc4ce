-- Circles that fail in one of the conditions of a checker alone.
use Rattle.std.proofs.Common.{refl, ◌+◌, ◌^◌, pos, List, [], ◌∷◌}
use Rattle.bounds_model.specs.Plane.{PlanePoint, PlaneRatio}
use Rattle.bounds_model.specs.Fractions.{Fraction}
use Rattle.bounds_model.specs.BallAnswer.{Weighted, CircleAnswer, CircleRanges, PassesCircle}
use Rattle.model_laws.proofs.Decisions.{by_test, by_one_failure}
use Rattle.model_laws.proofs.DecideBall.{circle_ranges, circle_passes}
use Rattle.model_laws.proofs.ExampleBalls.{triangle, unit_square}
use Rattle.model_laws.proofs.Literals.{minus, at, over, fraction, support, signed_support}

abbrev circle : Fraction → PlaneRatio → List Weighted → CircleAnswer
circle size centre supports = record { size = size; centre = centre; supports = supports }

abbrev two_points : List PlanePoint
two_points = at 0 0 ∷ at 4 0 ∷ []

-- the two points as supports
abbrev both : List Weighted
both = support 0 1 ∷ support 1 1 ∷ []

-- ---- two points

over_both : PassesCircle two_points (circle (fraction 4 1) (over 2 0 1) both)
over_both = by_test (circle_passes two_points (circle (fraction 4 1) (over 2 0 1) both)) refl

-- the size or the centre not in lowest terms, or another one
unreduced_size : ¬ PassesCircle two_points (circle (fraction 8 2) (over 2 0 1) both)
unreduced_size = by_one_failure (circle_passes two_points (circle (fraction 8 2) (over 2 0 1) both)) refl refl

unreduced_centre : ¬ PassesCircle two_points (circle (fraction 4 1) (over 4 0 2) both)
unreduced_centre = by_one_failure (circle_passes two_points (circle (fraction 4 1) (over 4 0 2) both)) refl refl

other_size : ¬ PassesCircle two_points (circle (fraction 5 1) (over 2 0 1) both)
other_size = by_one_failure (circle_passes two_points (circle (fraction 5 1) (over 2 0 1) both)) refl refl

other_x : ¬ PassesCircle two_points (circle (fraction 4 1) (over 3 0 1) both)
other_x = by_one_failure (circle_passes two_points (circle (fraction 4 1) (over 3 0 1) both)) refl refl

other_y : ¬ PassesCircle two_points (circle (fraction 4 1) (over 2 1 1) both)
other_y = by_one_failure (circle_passes two_points (circle (fraction 4 1) (over 2 1 1) both)) refl refl

-- without supports every circle would pass
no_supports : ¬ PassesCircle two_points (circle (fraction 1 1) (over 9 9 1) [])
no_supports = by_one_failure (circle_passes two_points (circle (fraction 1 1) (over 9 9 1) [])) refl refl

-- a number that is no point's, where the point would be the origin
beyond : ¬ PassesCircle two_points (circle (fraction 4 1) (over 2 0 1) (support 9 1 ∷ support 1 1 ∷ []))
beyond = by_one_failure (circle_passes two_points (circle (fraction 4 1) (over 2 0 1) (support 9 1 ∷ support 1 1 ∷ []))) refl refl

-- a support inside the circle through the first
inside_circle : ¬ PassesCircle two_points (circle (fraction 16 3) (over 8 0 3) (support 0 1 ∷ support 1 2 ∷ []))
inside_circle = by_one_failure (circle_passes two_points (circle (fraction 16 3) (over 8 0 3) (support 0 1 ∷ support 1 2 ∷ []))) refl refl

-- ---- more points

one_outside : ¬ PassesCircle (at 0 0 ∷ at 4 0 ∷ at 2 3 ∷ []) (circle (fraction 4 1) (over 2 0 1) both)
one_outside = by_one_failure (circle_passes (at 0 0 ∷ at 4 0 ∷ at 2 3 ∷ []) (circle (fraction 4 1) (over 2 0 1) both)) refl refl

weightless : ¬ PassesCircle triangle (circle (fraction 25 4) (over 4 3 2) (support 0 0 ∷ support 1 1 ∷ support 2 1 ∷ []))
weightless = by_one_failure (circle_passes triangle (circle (fraction 25 4) (over 4 3 2) (support 0 0 ∷ support 1 1 ∷ support 2 1 ∷ []))) refl refl

abbrev four_supports : CircleAnswer
four_supports = circle (fraction 1 2) (over 1 1 2) (support 0 1 ∷ support 1 1 ∷ support 2 1 ∷ support 3 1 ∷ [])

four_supports_fails : ¬ PassesCircle unit_square four_supports
four_supports_fails = by_one_failure (circle_passes unit_square four_supports) refl refl

heaviest : PassesCircle (at 5 6 ∷ []) (circle (fraction 0 1) (over 5 6 1) (support 0 (2 ^ 80) ∷ []))
heaviest = by_test (circle_passes (at 5 6 ∷ []) (circle (fraction 0 1) (over 5 6 1) (support 0 (2 ^ 80) ∷ []))) refl

too_heavy : ¬ PassesCircle (at 5 6 ∷ []) (circle (fraction 0 1) (over 5 6 1) (support 0 (2 ^ 80 + 1) ∷ []))
too_heavy = by_one_failure (circle_passes (at 5 6 ∷ []) (circle (fraction 0 1) (over 5 6 1) (support 0 (2 ^ 80 + 1) ∷ []))) refl refl

-- ---- ranges

largest : CircleRanges (circle (fraction (2 ^ 126) 1) (over (2 ^ 126) 0 1) (signed_support 9999 (pos (2 ^ 126)) ∷ []))
largest = by_test (circle_ranges (circle (fraction (2 ^ 126) 1) (over (2 ^ 126) 0 1) (signed_support 9999 (pos (2 ^ 126)) ∷ []))) refl

point_past : ¬ CircleRanges (circle (fraction 1 1) (over 0 0 1) (support 10000 1 ∷ []))
point_past = by_one_failure (circle_ranges (circle (fraction 1 1) (over 0 0 1) (support 10000 1 ∷ []))) refl refl

weight_past : ¬ CircleRanges (circle (fraction 1 1) (over 0 0 1) (support 0 (2 ^ 126 + 1) ∷ []))
weight_past = by_one_failure (circle_ranges (circle (fraction 1 1) (over 0 0 1) (support 0 (2 ^ 126 + 1) ∷ []))) refl refl

negative_weight : ¬ CircleRanges (circle (fraction 1 1) (over 0 0 1) (signed_support 0 (minus 1) ∷ []))
negative_weight = by_one_failure (circle_ranges (circle (fraction 1 1) (over 0 0 1) (signed_support 0 (minus 1) ∷ []))) refl refl

size_past : ¬ CircleRanges (circle (fraction (2 ^ 126 + 1) 1) (over 0 0 1) (support 0 1 ∷ []))
size_past = by_one_failure (circle_ranges (circle (fraction (2 ^ 126 + 1) 1) (over 0 0 1) (support 0 1 ∷ []))) refl refl

centre_past : ¬ CircleRanges (circle (fraction 1 1) (over (2 ^ 126 + 1) 0 1) (support 0 1 ∷ []))
centre_past = by_one_failure (circle_ranges (circle (fraction 1 1) (over (2 ^ 126 + 1) 0 1) (support 0 1 ∷ []))) refl refl

no_ranges : ¬ CircleRanges (circle (fraction 1 1) (over 0 0 1) [])
no_ranges = by_one_failure (circle_ranges (circle (fraction 1 1) (over 0 0 1) [])) refl refl

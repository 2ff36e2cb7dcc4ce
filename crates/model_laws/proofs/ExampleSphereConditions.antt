-- Spheres that fail in one of the conditions of a checker alone.
use Rattle.std.proofs.Common.{refl, ◌+◌, ◌^◌, pos, List, [], ◌∷◌}
use Rattle.bounds_model.specs.Space.{SpacePoint, SpaceRatio}
use Rattle.bounds_model.specs.Fractions.{Fraction}
use Rattle.bounds_model.specs.BallAnswer.{Weighted, SphereAnswer, SphereRanges, PassesSphere}
use Rattle.model_laws.proofs.Decisions.{by_test, by_one_failure}
use Rattle.model_laws.proofs.DecideBall.{sphere_ranges, sphere_passes}
use Rattle.model_laws.proofs.Literals.{minus, in_space, space_over, fraction, support, signed_support}

abbrev sphere : Fraction → SpaceRatio → List Weighted → SphereAnswer
sphere size centre supports = record { size = size; centre = centre; supports = supports }

abbrev two_points : List SpacePoint
two_points = in_space 0 0 0 ∷ in_space 0 0 4 ∷ []

-- the two points as supports
abbrev both : List Weighted
both = support 0 1 ∷ support 1 1 ∷ []

-- ---- two points

over_both : PassesSphere two_points (sphere (fraction 4 1) (space_over 0 0 2 1) both)
over_both = by_test (sphere_passes two_points (sphere (fraction 4 1) (space_over 0 0 2 1) both)) refl

-- the size or the centre not in lowest terms, or another one
unreduced_size : ¬ PassesSphere two_points (sphere (fraction 8 2) (space_over 0 0 2 1) both)
unreduced_size = by_one_failure (sphere_passes two_points (sphere (fraction 8 2) (space_over 0 0 2 1) both)) refl refl

unreduced_centre : ¬ PassesSphere two_points (sphere (fraction 4 1) (space_over 0 0 4 2) both)
unreduced_centre = by_one_failure (sphere_passes two_points (sphere (fraction 4 1) (space_over 0 0 4 2) both)) refl refl

other_size : ¬ PassesSphere two_points (sphere (fraction 5 1) (space_over 0 0 2 1) both)
other_size = by_one_failure (sphere_passes two_points (sphere (fraction 5 1) (space_over 0 0 2 1) both)) refl refl

other_x : ¬ PassesSphere two_points (sphere (fraction 4 1) (space_over 1 0 2 1) both)
other_x = by_one_failure (sphere_passes two_points (sphere (fraction 4 1) (space_over 1 0 2 1) both)) refl refl

other_y : ¬ PassesSphere two_points (sphere (fraction 4 1) (space_over 0 1 2 1) both)
other_y = by_one_failure (sphere_passes two_points (sphere (fraction 4 1) (space_over 0 1 2 1) both)) refl refl

other_z : ¬ PassesSphere two_points (sphere (fraction 4 1) (space_over 0 0 3 1) both)
other_z = by_one_failure (sphere_passes two_points (sphere (fraction 4 1) (space_over 0 0 3 1) both)) refl refl

-- without supports every sphere would pass
no_supports : ¬ PassesSphere two_points (sphere (fraction 1 1) (space_over 9 9 9 1) [])
no_supports = by_one_failure (sphere_passes two_points (sphere (fraction 1 1) (space_over 9 9 9 1) [])) refl refl

-- a number that is no point's, where the point would be the origin
beyond : ¬ PassesSphere two_points (sphere (fraction 4 1) (space_over 0 0 2 1) (support 9 1 ∷ support 1 1 ∷ []))
beyond = by_one_failure (sphere_passes two_points (sphere (fraction 4 1) (space_over 0 0 2 1) (support 9 1 ∷ support 1 1 ∷ []))) refl refl

-- a support inside the sphere through the first
inside_sphere : ¬ PassesSphere two_points (sphere (fraction 16 3) (space_over 0 0 8 3) (support 0 1 ∷ support 1 2 ∷ []))
inside_sphere = by_one_failure (sphere_passes two_points (sphere (fraction 16 3) (space_over 0 0 8 3) (support 0 1 ∷ support 1 2 ∷ []))) refl refl

-- ---- more points

one_outside : ¬ PassesSphere (in_space 0 0 0 ∷ in_space 0 0 4 ∷ in_space 3 0 2 ∷ []) (sphere (fraction 4 1) (space_over 0 0 2 1) both)
one_outside =
    by_one_failure (sphere_passes (in_space 0 0 0 ∷ in_space 0 0 4 ∷ in_space 3 0 2 ∷ []) (sphere (fraction 4 1) (space_over 0 0 2 1) both)) refl refl

-- a third point on the sphere over the two
abbrev three_points : List SpacePoint
three_points = in_space 0 0 0 ∷ in_space 0 0 4 ∷ in_space 2 0 2 ∷ []

weightless : ¬ PassesSphere three_points (sphere (fraction 4 1) (space_over 0 0 2 1) (support 0 1 ∷ support 1 1 ∷ support 2 0 ∷ []))
weightless =
    by_one_failure (sphere_passes three_points (sphere (fraction 4 1) (space_over 0 0 2 1) (support 0 1 ∷ support 1 1 ∷ support 2 0 ∷ []))) refl refl

-- five corners of a cube
abbrev five : List SpacePoint
five = in_space 0 0 0 ∷ in_space 1 1 1 ∷ in_space 1 1 0 ∷ in_space 1 0 1 ∷ in_space 0 1 1 ∷ []

four_supports : PassesSphere five (sphere (fraction 3 4) (space_over 1 1 1 2) (support 0 1 ∷ support 2 1 ∷ support 3 1 ∷ support 4 1 ∷ []))
four_supports =
    by_test (sphere_passes five (sphere (fraction 3 4) (space_over 1 1 1 2) (support 0 1 ∷ support 2 1 ∷ support 3 1 ∷ support 4 1 ∷ []))) refl

abbrev five_supports : SphereAnswer
five_supports = sphere (fraction 3 4) (space_over 1 1 1 2) (support 0 2 ∷ support 1 1 ∷ support 2 1 ∷ support 3 1 ∷ support 4 1 ∷ [])

five_supports_fails : ¬ PassesSphere five five_supports
five_supports_fails = by_one_failure (sphere_passes five five_supports) refl refl

heaviest : PassesSphere (in_space 5 6 7 ∷ []) (sphere (fraction 0 1) (space_over 5 6 7 1) (support 0 (2 ^ 92) ∷ []))
heaviest = by_test (sphere_passes (in_space 5 6 7 ∷ []) (sphere (fraction 0 1) (space_over 5 6 7 1) (support 0 (2 ^ 92) ∷ []))) refl

too_heavy : ¬ PassesSphere (in_space 5 6 7 ∷ []) (sphere (fraction 0 1) (space_over 5 6 7 1) (support 0 (2 ^ 92 + 1) ∷ []))
too_heavy = by_one_failure (sphere_passes (in_space 5 6 7 ∷ []) (sphere (fraction 0 1) (space_over 5 6 7 1) (support 0 (2 ^ 92 + 1) ∷ []))) refl refl

-- ---- ranges

largest : SphereRanges (sphere (fraction (2 ^ 126) 1) (space_over (2 ^ 126) 0 0 1) (signed_support 9999 (pos (2 ^ 126)) ∷ []))
largest = by_test (sphere_ranges (sphere (fraction (2 ^ 126) 1) (space_over (2 ^ 126) 0 0 1) (signed_support 9999 (pos (2 ^ 126)) ∷ []))) refl

point_past : ¬ SphereRanges (sphere (fraction 1 1) (space_over 0 0 0 1) (support 10000 1 ∷ []))
point_past = by_one_failure (sphere_ranges (sphere (fraction 1 1) (space_over 0 0 0 1) (support 10000 1 ∷ []))) refl refl

weight_past : ¬ SphereRanges (sphere (fraction 1 1) (space_over 0 0 0 1) (support 0 (2 ^ 126 + 1) ∷ []))
weight_past = by_one_failure (sphere_ranges (sphere (fraction 1 1) (space_over 0 0 0 1) (support 0 (2 ^ 126 + 1) ∷ []))) refl refl

negative_weight : ¬ SphereRanges (sphere (fraction 1 1) (space_over 0 0 0 1) (signed_support 0 (minus 1) ∷ []))
negative_weight = by_one_failure (sphere_ranges (sphere (fraction 1 1) (space_over 0 0 0 1) (signed_support 0 (minus 1) ∷ []))) refl refl

size_past : ¬ SphereRanges (sphere (fraction (2 ^ 126 + 1) 1) (space_over 0 0 0 1) (support 0 1 ∷ []))
size_past = by_one_failure (sphere_ranges (sphere (fraction (2 ^ 126 + 1) 1) (space_over 0 0 0 1) (support 0 1 ∷ []))) refl refl

centre_past : ¬ SphereRanges (sphere (fraction 1 1) (space_over 0 0 (2 ^ 126 + 1) 1) (support 0 1 ∷ []))
centre_past = by_one_failure (sphere_ranges (sphere (fraction 1 1) (space_over 0 0 (2 ^ 126 + 1) 1) (support 0 1 ∷ []))) refl refl

no_ranges : ¬ SphereRanges (sphere (fraction 1 1) (space_over 0 0 0 1) [])
no_ranges = by_one_failure (sphere_ranges (sphere (fraction 1 1) (space_over 0 0 0 1) [])) refl refl

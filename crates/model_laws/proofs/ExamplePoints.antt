-- Points of the plane and of space: their order, their bounds, and when two name one place.
use Rattle.std.proofs.Common.{refl, ℕ, ◌+◌, ◌^◌, pos, List, [], ◌∷◌}
use Rattle.bounds_model.specs.Plane.{PlanePoint, IsBefore, IsLeastPoint, IsGreatestPoint, IsInPlane}
use Rattle.bounds_model.specs.Space.{SamePlace, IsInSpace}
use Rattle.bounds_model.specs.Ranges.{IsSpaceRatio}
use Rattle.model_laws.proofs.Decisions.{by_test, by_failed_test, by_one_failure}
use Rattle.model_laws.proofs.DecideParts.{same_place, space_ratio_in_range}
use Rattle.model_laws.proofs.DecideKgon.{before, least_point, greatest_point}
use Rattle.model_laws.proofs.DecideFits.{is_in_plane, is_in_space}
use Rattle.model_laws.proofs.Literals.{minus, at, left_at, in_space, space_over, signed_at, signed_in_space, signed_space_over}

-- ---- from left to right, and then upwards

left_of : IsBefore (at 0 5) (at 1 0)
left_of = by_test (before (at 0 5) (at 1 0)) refl

straight_below : IsBefore (at 1 0) (at 1 1)
straight_below = by_test (before (at 1 0) (at 1 1)) refl

equal_to : IsBefore (at 1 0) (at 1 0)
equal_to = by_test (before (at 1 0) (at 1 0)) refl

straight_above : ¬ IsBefore (at 1 1) (at 1 0)
straight_above = by_failed_test (before (at 1 1) (at 1 0)) refl

right_of : ¬ IsBefore (at 2 0) (at 1 5)
right_of = by_failed_test (before (at 2 0) (at 1 5)) refl

-- the least is the leftmost and not the lowest, the greatest the rightmost
abbrev three_points : List PlanePoint
three_points = at 3 0 ∷ at 0 5 ∷ at 4 4 ∷ []

leftmost : IsLeastPoint three_points (at 0 5)
leftmost = by_test (least_point three_points (at 0 5)) refl

lowest : ¬ IsLeastPoint three_points (at 3 0)
lowest = by_one_failure (least_point three_points (at 3 0)) refl refl

-- it is before all, but none of them
least_of_none : ¬ IsLeastPoint three_points (left_at 1 0)
least_of_none = by_one_failure (least_point three_points (left_at 1 0)) refl refl

rightmost : IsGreatestPoint three_points (at 4 4)
rightmost = by_test (greatest_point three_points (at 4 4)) refl

highest : ¬ IsGreatestPoint three_points (at 0 5)
highest = by_one_failure (greatest_point three_points (at 0 5)) refl refl

greatest_of_none : ¬ IsGreatestPoint three_points (at 5 0)
greatest_of_none = by_one_failure (greatest_point three_points (at 5 0)) refl refl

-- ---- bounds

plane_corner : IsInPlane (signed_at (pos 200000) (minus 200000))
plane_corner = by_test (is_in_plane (signed_at (pos 200000) (minus 200000))) refl

past_plane_x : ¬ IsInPlane (at 200001 0)
past_plane_x = by_one_failure (is_in_plane (at 200001 0)) refl refl

past_plane_y : ¬ IsInPlane (signed_at (pos 0) (minus 200001))
past_plane_y = by_one_failure (is_in_plane (signed_at (pos 0) (minus 200001))) refl refl

space_corner : IsInSpace (signed_in_space (pos 8000) (minus 8000) (pos 8000))
space_corner = by_test (is_in_space (signed_in_space (pos 8000) (minus 8000) (pos 8000))) refl

past_space_x : ¬ IsInSpace (in_space 8001 0 0)
past_space_x = by_one_failure (is_in_space (in_space 8001 0 0)) refl refl

past_space_y : ¬ IsInSpace (signed_in_space (pos 0) (minus 8001) (pos 0))
past_space_y = by_one_failure (is_in_space (signed_in_space (pos 0) (minus 8001) (pos 0))) refl refl

past_space_z : ¬ IsInSpace (in_space 0 0 8001)
past_space_z = by_one_failure (is_in_space (in_space 0 0 8001)) refl refl

-- ---- points of space over a denominator

twice_the_entries : SamePlace (space_over 1 2 3 1) (space_over 2 4 6 2)
twice_the_entries = by_test (same_place (space_over 1 2 3 1) (space_over 2 4 6 2)) refl

other_x : ¬ SamePlace (space_over 1 2 3 1) (space_over 3 4 6 2)
other_x = by_one_failure (same_place (space_over 1 2 3 1) (space_over 3 4 6 2)) refl refl

other_y : ¬ SamePlace (space_over 1 2 3 1) (space_over 2 5 6 2)
other_y = by_one_failure (same_place (space_over 1 2 3 1) (space_over 2 5 6 2)) refl refl

other_z : ¬ SamePlace (space_over 1 2 3 1) (space_over 2 4 7 2)
other_z = by_one_failure (same_place (space_over 1 2 3 1) (space_over 2 4 7 2)) refl refl

-- the greatest number of an answer, and the first that is too great
abbrev largest : ℕ
largest = 2 ^ 126

abbrev past : ℕ
past = largest + 1

largest_ratio : IsSpaceRatio (signed_space_over (pos largest) (minus largest) (pos largest) (pos 1))
largest_ratio = by_test (space_ratio_in_range (signed_space_over (pos largest) (minus largest) (pos largest) (pos 1))) refl

past_x : ¬ IsSpaceRatio (space_over past 0 0 1)
past_x = by_one_failure (space_ratio_in_range (space_over past 0 0 1)) refl refl

past_y : ¬ IsSpaceRatio (signed_space_over (pos 0) (minus past) (pos 0) (pos 1))
past_y = by_one_failure (space_ratio_in_range (signed_space_over (pos 0) (minus past) (pos 0) (pos 1))) refl refl

past_z : ¬ IsSpaceRatio (space_over 0 0 past 1)
past_z = by_one_failure (space_ratio_in_range (space_over 0 0 past 1)) refl refl

past_w : ¬ IsSpaceRatio (space_over 0 0 1 past)
past_w = by_one_failure (space_ratio_in_range (space_over 0 0 1 past)) refl refl

over_zero : ¬ IsSpaceRatio (space_over 0 0 1 0)
over_zero = by_one_failure (space_ratio_in_range (space_over 0 0 1 0)) refl refl

reducible : ¬ IsSpaceRatio (space_over 2 4 6 2)
reducible = by_one_failure (space_ratio_in_range (space_over 2 4 6 2)) refl refl

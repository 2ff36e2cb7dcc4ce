-- Furthest corners that pass, and spoilt ones that fail in one of the conditions of a checker alone.
use Rattle.std.proofs.Common.{refl, ℕ, List, [], ◌∷◌}
use Rattle.bounds_model.specs.Plane.{PlanePoint}
use Rattle.bounds_model.specs.FurthestAnswer.{Entry, FurthestAnswer, PassesFurthest}
use Rattle.model_laws.proofs.Decisions.{by_test, by_failed_test, by_one_failure}
use Rattle.model_laws.proofs.DecideFurthest.{furthest_passes}
use Rattle.model_laws.proofs.Literals.{at, fraction}

-- a corner's number, and the position of its furthest corner
abbrev to : ℕ → ℕ → Entry
to corner far = record { corner = corner; far = far }

-- the size over 1, and the corners
abbrev answer : ℕ → List Entry → FurthestAnswer
answer size entries = record { size = fraction size 1; entries = entries }

-- ---- a triangle, a square, points in one place and on a line

abbrev triangle : List PlanePoint
triangle = at 0 0 ∷ at 4 0 ∷ at 0 3 ∷ []

of_triangle : PassesFurthest triangle (answer 25 (to 0 1 ∷ to 1 2 ∷ to 2 1 ∷ []))
of_triangle = by_test (furthest_passes triangle (answer 25 (to 0 1 ∷ to 1 2 ∷ to 2 1 ∷ []))) refl

abbrev square : List PlanePoint
square = at 0 0 ∷ at 1 0 ∷ at 1 1 ∷ at 0 1 ∷ []

of_square : PassesFurthest square (answer 2 (to 0 2 ∷ to 1 3 ∷ to 2 0 ∷ to 3 1 ∷ []))
of_square = by_test (furthest_passes square (answer 2 (to 0 2 ∷ to 1 3 ∷ to 2 0 ∷ to 3 1 ∷ []))) refl

abbrev one_place : List PlanePoint
one_place = at 5 5 ∷ at 5 5 ∷ at 5 5 ∷ []

of_one_place : PassesFurthest one_place (answer 0 (to 0 0 ∷ []))
of_one_place = by_test (furthest_passes one_place (answer 0 (to 0 0 ∷ []))) refl

-- the inner point is no corner
abbrev on_line : List PlanePoint
on_line = at 2 0 ∷ at 1 1 ∷ at 0 2 ∷ []

of_line : PassesFurthest on_line (answer 8 (to 2 1 ∷ to 0 0 ∷ []))
of_line = by_test (furthest_passes on_line (answer 8 (to 2 1 ∷ to 0 0 ∷ []))) refl

-- ---- two corners that are equally far

-- the first and the second corner are equally far from the third
abbrev tall : List PlanePoint
tall = at 0 0 ∷ at 2 0 ∷ at 1 3 ∷ []

of_tall : PassesFurthest tall (answer 10 (to 0 2 ∷ to 1 2 ∷ to 2 0 ∷ []))
of_tall = by_test (furthest_passes tall (answer 10 (to 0 2 ∷ to 1 2 ∷ to 2 0 ∷ []))) refl

-- the one that comes later going around
later_of_two : ¬ PassesFurthest tall (answer 10 (to 0 2 ∷ to 1 2 ∷ to 2 1 ∷ []))
later_of_two = by_one_failure (furthest_passes tall (answer 10 (to 0 2 ∷ to 1 2 ∷ to 2 1 ∷ []))) refl refl

-- one that is not as far
nearer : ¬ PassesFurthest tall (answer 10 (to 0 1 ∷ to 1 2 ∷ to 2 0 ∷ []))
nearer = by_one_failure (furthest_passes tall (answer 10 (to 0 1 ∷ to 1 2 ∷ to 2 0 ∷ []))) refl refl

-- no corner, where the point read in its place would be the furthest one
no_position : ¬ PassesFurthest tall (answer 10 (to 0 2 ∷ to 1 2 ∷ to 2 3 ∷ []))
no_position = by_one_failure (furthest_passes tall (answer 10 (to 0 2 ∷ to 1 2 ∷ to 2 3 ∷ []))) refl refl

-- ---- the other conditions

unreduced : ¬ PassesFurthest tall (record { size = fraction 20 2; entries = to 0 2 ∷ to 1 2 ∷ to 2 0 ∷ [] })
unreduced = by_one_failure (furthest_passes tall (record { size = fraction 20 2; entries = to 0 2 ∷ to 1 2 ∷ to 2 0 ∷ [] })) refl refl

other_size : ¬ PassesFurthest tall (answer 11 (to 0 2 ∷ to 1 2 ∷ to 2 0 ∷ []))
other_size = by_one_failure (furthest_passes tall (answer 11 (to 0 2 ∷ to 1 2 ∷ to 2 0 ∷ []))) refl refl

-- a number that is no point's, where the point read in its place would be the corner
corner_beyond : ¬ PassesFurthest tall (answer 10 (to 9 2 ∷ to 1 2 ∷ to 2 0 ∷ []))
corner_beyond = by_one_failure (furthest_passes tall (answer 10 (to 9 2 ∷ to 1 2 ∷ to 2 0 ∷ []))) refl refl

-- not all corners, not from the least on, twice around, and none
one_left_out : ¬ PassesFurthest square (answer 2 (to 0 2 ∷ to 1 2 ∷ to 2 0 ∷ []))
one_left_out = by_one_failure (furthest_passes square (answer 2 (to 0 2 ∷ to 1 2 ∷ to 2 0 ∷ []))) refl refl

begun_late : ¬ PassesFurthest square (answer 2 (to 1 2 ∷ to 2 3 ∷ to 3 0 ∷ to 0 1 ∷ []))
begun_late = by_one_failure (furthest_passes square (answer 2 (to 1 2 ∷ to 2 3 ∷ to 3 0 ∷ to 0 1 ∷ []))) refl refl

twice_around : ¬ PassesFurthest square (answer 2 (to 0 2 ∷ to 1 3 ∷ to 2 4 ∷ to 3 5 ∷ to 0 6 ∷ to 1 7 ∷ to 2 0 ∷ to 3 1 ∷ []))
twice_around = by_one_failure (furthest_passes square (answer 2 (to 0 2 ∷ to 1 3 ∷ to 2 4 ∷ to 3 5 ∷ to 0 6 ∷ to 1 7 ∷ to 2 0 ∷ to 3 1 ∷ []))) refl refl

none_at_all : ¬ PassesFurthest square (answer 0 [])
none_at_all = by_failed_test (furthest_passes square (answer 0 [])) refl

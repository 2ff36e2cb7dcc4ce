-- Leaves of three squares, in the order of their corners, and the ranges of leaves.
use Rattle.std.proofs.Common.{◌≡◌, refl, ℕ, zero, suc, pos, List, [], ◌∷◌, ◌++◌}
use Rattle.bounds_model.specs.Plane.{PlanePoint}
use Rattle.bounds_model.specs.CentresAnswer.{Leaf, CentresAnswer, CentresRanges, PassesCentres, digits, side, corner_square}
use Rattle.model_laws.proofs.Decisions.{by_test, by_one_failure}
use Rattle.model_laws.proofs.DecideCentres.{centres_ranges, centres_passes}
use Rattle.model_laws.proofs.Literals.{at, over, fraction, leaf}

abbrev five_points : List PlanePoint
five_points = at 0 0 ∷ at 4 0 ∷ at 0 10 ∷ at 20 12 ∷ at 23 13 ∷ []

-- ---- the corners that a leaf names, and the squares in them

two_digits : digits 2 7 ≡ 1 ∷ 3 ∷ []
two_digits = refl

side_of_halves : side (fraction 9 2) ≡ 9
side_of_halves = refl

lower_left : corner_square 3 0 five_points ≡ record { left = pos 0; bottom = pos 0; side = 3 }
lower_left = refl

lower_right : corner_square 3 1 five_points ≡ record { left = pos 20; bottom = pos 0; side = 3 }
lower_right = refl

upper_left : corner_square 3 2 five_points ≡ record { left = pos 0; bottom = pos 10; side = 3 }
upper_left = refl

upper_right : corner_square 3 3 five_points ≡ record { left = pos 20; bottom = pos 10; side = 3 }
upper_right = refl

-- ---- three squares, with a leaf for each two corners in turn

abbrev three_squares : List Leaf → CentresAnswer
three_squares leaves = record { size = fraction 2 1; squares = over 2 2 1 ∷ over 2 12 1 ∷ over 22 14 1 ∷ []; leaves = leaves }

-- the leaves of each first corner
abbrev from_lower_left : List Leaf
from_lower_left = leaf 1 2 ∷ leaf 1 2 ∷ leaf 1 3 ∷ leaf 1 2 ∷ []

abbrev from_lower_right : List Leaf
from_lower_right = leaf 1 2 ∷ leaf 1 2 ∷ leaf 0 1 ∷ leaf 0 1 ∷ []

abbrev from_upper_left : List Leaf
from_upper_left = leaf 1 3 ∷ leaf 0 1 ∷ leaf 0 1 ∷ leaf 0 1 ∷ []

abbrev from_upper_right : List Leaf
from_upper_right = leaf 1 2 ∷ leaf 0 2 ∷ leaf 0 1 ∷ leaf 0 1 ∷ []

in_order : PassesCentres 3 five_points (three_squares (from_lower_left ++ from_lower_right ++ from_upper_left ++ from_upper_right))
in_order = by_test (centres_passes 3 five_points (three_squares (from_lower_left ++ from_lower_right ++ from_upper_left ++ from_upper_right))) refl

-- the corners are in this order, the first square's before the second's
abbrev upper_first : CentresAnswer
upper_first = three_squares (from_lower_left ++ from_upper_left ++ from_lower_right ++ from_upper_right)

upper_first_fails : ¬ PassesCentres 3 five_points upper_first
upper_first_fails = by_one_failure (centres_passes 3 five_points upper_first) refl refl

abbrev right_first : CentresAnswer
right_first = three_squares (from_lower_right ++ from_lower_left ++ from_upper_left ++ from_upper_right)

right_first_fails : ¬ PassesCentres 3 five_points right_first
right_first_fails = by_one_failure (centres_passes 3 five_points right_first) refl refl

-- ---- ranges

-- so many leaves
abbrev many : ℕ → List Leaf
many zero = []
many (suc count) = leaf 9999 9999 ∷ many count

most_leaves : CentresRanges (three_squares (many 16))
most_leaves = by_test (centres_ranges (three_squares (many 16))) refl

no_leaves : CentresRanges (three_squares [])
no_leaves = by_test (centres_ranges (three_squares [])) refl

too_many_leaves : ¬ CentresRanges (three_squares (many 17))
too_many_leaves = by_one_failure (centres_ranges (three_squares (many 17))) refl refl

first_past : ¬ CentresRanges (three_squares (leaf 10000 0 ∷ []))
first_past = by_one_failure (centres_ranges (three_squares (leaf 10000 0 ∷ []))) refl refl

second_past : ¬ CentresRanges (three_squares (leaf 0 10000 ∷ []))
second_past = by_one_failure (centres_ranges (three_squares (leaf 0 10000 ∷ []))) refl refl

no_squares : ¬ CentresRanges (record (three_squares []) { squares = [] })
no_squares = by_one_failure (centres_ranges (record (three_squares []) { squares = [] })) refl refl

four_squares : ¬ CentresRanges (record (three_squares []) { squares = over 0 0 1 ∷ over 0 0 1 ∷ over 0 0 1 ∷ over 0 0 1 ∷ [] })
four_squares =
    by_one_failure (centres_ranges (record (three_squares []) { squares = over 0 0 1 ∷ over 0 0 1 ∷ over 0 0 1 ∷ over 0 0 1 ∷ [] })) refl refl

size_unreduced : ¬ CentresRanges (record (three_squares []) { size = fraction 4 2 })
size_unreduced = by_one_failure (centres_ranges (record (three_squares []) { size = fraction 4 2 })) refl refl

square_unreduced : ¬ CentresRanges (record (three_squares []) { squares = over 2 2 2 ∷ [] })
square_unreduced = by_one_failure (centres_ranges (record (three_squares []) { squares = over 2 2 2 ∷ [] })) refl refl

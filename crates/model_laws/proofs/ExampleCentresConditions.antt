-- Centres that fail in one of the conditions of a checker alone.
use Rattle.std.proofs.Common.{refl, ℕ, pos, List, [], ◌∷◌}
use Rattle.bounds_model.specs.Plane.{PlanePoint, PlaneRatio}
use Rattle.bounds_model.specs.Fractions.{Fraction}
use Rattle.bounds_model.specs.CentresAnswer.{Leaf, CentresAnswer, IsCentreWithinLimits, PassesCentres}
use Rattle.model_laws.proofs.Decisions.{by_test, by_one_failure}
use Rattle.model_laws.proofs.DecideCentres.{centre_within_limits, centres_passes}
use Rattle.model_laws.proofs.Literals.{minus, at, left_at, over, signed_over, fraction, leaf}

abbrev cover : Fraction → List PlaneRatio → List Leaf → CentresAnswer
cover size squares leaves = record { size = size; squares = squares; leaves = leaves }

-- ---- two squares around four points

abbrev four_points : List PlanePoint
four_points = at 0 0 ∷ at 1 1 ∷ at 10 10 ∷ at 12 11 ∷ []

abbrev with_leaves : List Leaf → CentresAnswer
with_leaves = cover (fraction 1 1) (over 1 1 1 ∷ over 11 11 1 ∷ [])

-- the same leaves but the first, or but the last
abbrev first_leaf : Leaf → CentresAnswer
first_leaf l = with_leaves (l ∷ leaf 0 3 ∷ leaf 0 3 ∷ leaf 0 2 ∷ [])

abbrev last_leaf : Leaf → CentresAnswer
last_leaf l = with_leaves (leaf 2 3 ∷ leaf 0 3 ∷ leaf 0 3 ∷ l ∷ [])

abbrev two_squares : CentresAnswer
two_squares = first_leaf (leaf 2 3)

two_squares_pass : PassesCentres 2 four_points two_squares
two_squares_pass = by_test (centres_passes 2 four_points two_squares) refl

unreduced_size : ¬ PassesCentres 2 four_points (record two_squares { size = fraction 2 2 })
unreduced_size = by_one_failure (centres_passes 2 four_points (record two_squares { size = fraction 2 2 })) refl refl

unreduced_centre : ¬ PassesCentres 2 four_points (record two_squares { squares = over 2 2 2 ∷ over 11 11 1 ∷ [] })
unreduced_centre = by_one_failure (centres_passes 2 four_points (record two_squares { squares = over 2 2 2 ∷ over 11 11 1 ∷ [] })) refl refl

one_uncovered : ¬ PassesCentres 2 four_points (record two_squares { squares = over 1 1 1 ∷ over 10 10 1 ∷ [] })
one_uncovered = by_one_failure (centres_passes 2 four_points (record two_squares { squares = over 1 1 1 ∷ over 10 10 1 ∷ [] })) refl refl

-- a leaf whose first or second point the square in the corner contains
first_covered : ¬ PassesCentres 2 four_points (first_leaf (leaf 0 3))
first_covered = by_one_failure (centres_passes 2 four_points (first_leaf (leaf 0 3))) refl refl

second_covered : ¬ PassesCentres 2 four_points (first_leaf (leaf 3 1))
second_covered = by_one_failure (centres_passes 2 four_points (first_leaf (leaf 3 1))) refl refl

near_each_other : ¬ PassesCentres 2 four_points (last_leaf (leaf 0 1))
near_each_other = by_one_failure (centres_passes 2 four_points (last_leaf (leaf 0 1))) refl refl

-- a number that is no point's, where the point would be the origin
first_beyond : ¬ PassesCentres 2 four_points (last_leaf (leaf 9 2))
first_beyond = by_one_failure (centres_passes 2 four_points (last_leaf (leaf 9 2))) refl refl

second_beyond : ¬ PassesCentres 2 four_points (last_leaf (leaf 2 9))
second_beyond = by_one_failure (centres_passes 2 four_points (last_leaf (leaf 2 9))) refl refl

one_too_few : ¬ PassesCentres 2 four_points (with_leaves (leaf 2 3 ∷ leaf 0 3 ∷ leaf 0 3 ∷ []))
one_too_few = by_one_failure (centres_passes 2 four_points (with_leaves (leaf 2 3 ∷ leaf 0 3 ∷ leaf 0 3 ∷ []))) refl refl

one_too_many : ¬ PassesCentres 2 four_points (with_leaves (leaf 2 3 ∷ leaf 0 3 ∷ leaf 0 3 ∷ leaf 0 2 ∷ leaf 2 3 ∷ []))
one_too_many = by_one_failure (centres_passes 2 four_points (with_leaves (leaf 2 3 ∷ leaf 0 3 ∷ leaf 0 3 ∷ leaf 0 2 ∷ leaf 2 3 ∷ []))) refl refl

-- ---- points that are far apart in y alone, or by a whole side and no more

abbrev one_square : Leaf → CentresAnswer
one_square l = cover (fraction 3 2) (over 1 3 2 ∷ []) (l ∷ [])

far_in_y : PassesCentres 1 (at 0 0 ∷ at 1 3 ∷ at 0 2 ∷ []) (one_square (leaf 0 1))
far_in_y = by_test (centres_passes 1 (at 0 0 ∷ at 1 3 ∷ at 0 2 ∷ []) (one_square (leaf 0 1))) refl

far_in_y_back : PassesCentres 1 (at 0 0 ∷ at 1 3 ∷ at 0 2 ∷ []) (one_square (leaf 1 0))
far_in_y_back = by_test (centres_passes 1 (at 0 0 ∷ at 1 3 ∷ at 0 2 ∷ []) (one_square (leaf 1 0))) refl

by_less_than_a_side : ¬ PassesCentres 1 (at 0 0 ∷ at 1 3 ∷ at 0 2 ∷ []) (one_square (leaf 0 2))
by_less_than_a_side = by_one_failure (centres_passes 1 (at 0 0 ∷ at 1 3 ∷ at 0 2 ∷ []) (one_square (leaf 0 2))) refl refl

-- ---- squares of size 0, which have no leaves

abbrev points_alone : List PlaneRatio → CentresAnswer
points_alone squares = cover (fraction 0 1) squares []

three_alone : PassesCentres 3 (at 0 0 ∷ at 5 5 ∷ at 9 0 ∷ []) (points_alone (over 0 0 1 ∷ over 5 5 1 ∷ over 9 0 1 ∷ []))
three_alone = by_test (centres_passes 3 (at 0 0 ∷ at 5 5 ∷ at 9 0 ∷ []) (points_alone (over 0 0 1 ∷ over 5 5 1 ∷ over 9 0 1 ∷ []))) refl

of_three : ¬ PassesCentres 3 (at 0 0 ∷ at 5 5 ∷ []) (points_alone (over 0 0 1 ∷ over 5 5 1 ∷ []))
of_three = by_one_failure (centres_passes 3 (at 0 0 ∷ at 5 5 ∷ []) (points_alone (over 0 0 1 ∷ over 5 5 1 ∷ []))) refl refl

none_of_none : ¬ PassesCentres 0 [] (points_alone [])
none_of_none = by_one_failure (centres_passes 0 [] (points_alone [])) refl refl

four_alone : ¬ PassesCentres 4 (at 0 0 ∷ []) (points_alone (over 0 0 1 ∷ over 1 1 1 ∷ over 2 2 1 ∷ over 3 3 1 ∷ []))
four_alone = by_one_failure (centres_passes 4 (at 0 0 ∷ []) (points_alone (over 0 0 1 ∷ over 1 1 1 ∷ over 2 2 1 ∷ over 3 3 1 ∷ []))) refl refl

-- halves alone: a third is a side of 0
a_third : ¬ PassesCentres 1 (at 0 0 ∷ []) (cover (fraction 1 3) (over 0 0 1 ∷ []) [])
a_third = by_one_failure (centres_passes 1 (at 0 0 ∷ []) (cover (fraction 1 3) (over 0 0 1 ∷ []) [])) refl refl

-- ---- limits

abbrev halves : ℕ → CentresAnswer
halves x = cover (fraction x 1) (over 0 0 1 ∷ []) (leaf 0 1 ∷ [])

largest : PassesCentres 1 (left_at 1000000 0 ∷ at 1000000 0 ∷ []) (halves 1000000)
largest = by_test (centres_passes 1 (left_at 1000000 0 ∷ at 1000000 0 ∷ []) (halves 1000000)) refl

too_large : ¬ PassesCentres 1 (left_at 1000001 0 ∷ at 1000001 0 ∷ []) (halves 1000001)
too_large = by_one_failure (centres_passes 1 (left_at 1000001 0 ∷ at 1000001 0 ∷ []) (halves 1000001)) refl refl

-- a far point with a square of its own, and its centre anywhere near
abbrev with_far : List PlanePoint
with_far = at 0 0 ∷ at 2 2 ∷ at 1000000 0 ∷ []

abbrev far_centre : PlaneRatio → CentresAnswer
far_centre c = cover (fraction 1 1) (over 1 1 1 ∷ c ∷ []) (leaf 1 2 ∷ leaf 0 1 ∷ leaf 0 1 ∷ leaf 0 1 ∷ [])

farthest : PassesCentres 2 with_far (far_centre (over 1000000 1 1))
farthest = by_test (centres_passes 2 with_far (far_centre (over 1000000 1 1))) refl

too_far : ¬ PassesCentres 2 with_far (far_centre (over 1000001 0 1))
too_far = by_one_failure (centres_passes 2 with_far (far_centre (over 1000001 0 1))) refl refl

centre_of_halves : PassesCentres 2 (at 0 0 ∷ at 2 2 ∷ at 10 0 ∷ []) (far_centre (over 21 1 2))
centre_of_halves = by_test (centres_passes 2 (at 0 0 ∷ at 2 2 ∷ at 10 0 ∷ []) (far_centre (over 21 1 2))) refl

centre_of_thirds : ¬ PassesCentres 2 (at 0 0 ∷ at 2 2 ∷ at 10 0 ∷ []) (far_centre (over 31 1 3))
centre_of_thirds = by_one_failure (centres_passes 2 (at 0 0 ∷ at 2 2 ∷ at 10 0 ∷ []) (far_centre (over 31 1 3))) refl refl

of_halves : IsCentreWithinLimits (signed_over (minus 1000000) (pos 1000000) (pos 2))
of_halves = by_test (centre_within_limits (signed_over (minus 1000000) (pos 1000000) (pos 2))) refl

of_thirds : ¬ IsCentreWithinLimits (over 1 1 3)
of_thirds = by_one_failure (centre_within_limits (over 1 1 3)) refl refl

of_nothing : ¬ IsCentreWithinLimits (over 1 1 0)
of_nothing = by_one_failure (centre_within_limits (over 1 1 0)) refl refl

x_past : ¬ IsCentreWithinLimits (signed_over (minus 1000001) (pos 0) (pos 1))
x_past = by_one_failure (centre_within_limits (signed_over (minus 1000001) (pos 0) (pos 1))) refl refl

y_past : ¬ IsCentreWithinLimits (over 0 1000001 2)
y_past = by_one_failure (centre_within_limits (over 0 1000001 2)) refl refl

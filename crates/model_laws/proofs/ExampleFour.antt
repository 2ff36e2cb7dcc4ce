-- Four centres that pass, and some that fail in one of the conditions of a checker alone.
use Rattle.std.proofs.Common.{refl, ℤ, pos, List, [], ◌∷◌, ◌++◌}
use Rattle.bounds_model.specs.Plane.{PlanePoint, IsLeastPoint}
use Rattle.bounds_model.specs.CentresAnswer.{Leaf, CentresAnswer}
use Rattle.bounds_model.specs.FourAnswer.{AreHeights, PassesFour}
use Rattle.model_laws.proofs.Decisions.{by_test, by_one_failure}
use Rattle.model_laws.proofs.DecideKgon.{least_point}
use Rattle.model_laws.proofs.DecideFour.{are_heights, four_passes}
use Rattle.model_laws.proofs.Literals.{at, over, fraction, leaf}

-- one height, that of points on a line
abbrev level : List ℤ
level = pos 0 ∷ []

-- ---- five points on a line

abbrev five_points : List PlanePoint
five_points = at 0 0 ∷ at 1 0 ∷ at 10 0 ∷ at 20 0 ∷ at 30 0 ∷ []

five_least : IsLeastPoint five_points (at 0 0)
five_least = by_test (least_point five_points (at 0 0)) refl

five_heights : AreHeights 0 (at 0 0) five_points level
five_heights = by_test (are_heights 0 (at 0 0) five_points level) refl

abbrev eight : List Leaf
eight = leaf 3 4 ∷ leaf 2 3 ∷ leaf 3 4 ∷ leaf 2 3 ∷ leaf 2 3 ∷ leaf 1 2 ∷ leaf 2 3 ∷ leaf 1 2 ∷ []

abbrev on_a_line : List Leaf → CentresAnswer
on_a_line leaves = record { size = fraction 1 2; squares = over 1 1 2 ∷ over 21 1 2 ∷ over 41 1 2 ∷ over 61 1 2 ∷ []; leaves = leaves }

line_passes : PassesFour five_points (on_a_line (eight ++ eight))
line_passes = by_test (four_passes five_points (on_a_line (eight ++ eight)) (at 0 0) level five_least five_heights) refl

no_leaves : ¬ PassesFour five_points (on_a_line [])
no_leaves = by_one_failure (four_passes five_points (on_a_line []) (at 0 0) level five_least five_heights) refl refl

half_the_leaves : ¬ PassesFour five_points (on_a_line eight)
half_the_leaves = by_one_failure (four_passes five_points (on_a_line eight) (at 0 0) level five_least five_heights) refl refl

too_many_leaves : ¬ PassesFour five_points (on_a_line (eight ++ eight ++ eight ++ eight))
too_many_leaves = by_one_failure (four_passes five_points (on_a_line (eight ++ eight ++ eight ++ eight)) (at 0 0) level five_least five_heights) refl refl

-- a leaf whose point the first square contains, and points that the second one contains
abbrev last_leaf : Leaf → CentresAnswer
last_leaf l = on_a_line (eight ++ (leaf 3 4 ∷ leaf 2 3 ∷ leaf 3 4 ∷ leaf 2 3 ∷ leaf 2 3 ∷ leaf 1 2 ∷ leaf 2 3 ∷ l ∷ []))

in_first : ¬ PassesFour five_points (last_leaf (leaf 0 2))
in_first = by_one_failure (four_passes five_points (last_leaf (leaf 0 2)) (at 0 0) level five_least five_heights) refl refl

in_second : ¬ PassesFour five_points (last_leaf (leaf 3 2))
in_second = by_one_failure (four_passes five_points (last_leaf (leaf 3 2)) (at 0 0) level five_least five_heights) refl refl

same_point : ¬ PassesFour five_points (last_leaf (leaf 2 2))
same_point = by_one_failure (four_passes five_points (last_leaf (leaf 2 2)) (at 0 0) level five_least five_heights) refl refl

abbrev elsewhere : CentresAnswer
elsewhere = record (on_a_line (eight ++ eight)) { squares = over 1 1 2 ∷ over 21 1 2 ∷ over 41 1 2 ∷ over 63 1 2 ∷ [] }

one_uncovered : ¬ PassesFour five_points elsewhere
one_uncovered = by_one_failure (four_passes five_points elsewhere (at 0 0) level five_least five_heights) refl refl

unreduced_centre : ¬ PassesFour five_points (record (on_a_line (eight ++ eight)) { squares = over 1 1 2 ∷ over 20 0 2 ∷ over 41 1 2 ∷ over 61 1 2 ∷ [] })
unreduced_centre =
    by_one_failure (four_passes five_points (record (on_a_line (eight ++ eight)) { squares = over 1 1 2 ∷ over 20 0 2 ∷ over 41 1 2 ∷ over 61 1 2 ∷ [] }) (at 0 0) level five_least five_heights) refl refl

-- ---- points around which four squares stand like the sails of a mill: no square in a corner of their box holds one

abbrev windmill : List PlanePoint
windmill = at 0 4 ∷ at 2 6 ∷ at 12 6 ∷ at 10 8 ∷ at 4 0 ∷ at 6 2 ∷ at 6 12 ∷ at 8 10 ∷ []

windmill_least : IsLeastPoint windmill (at 0 4)
windmill_least = by_test (least_point windmill (at 0 4)) refl

windmill_heights : AreHeights 1 (at 0 4) windmill (pos 4 ∷ [])
windmill_heights = by_test (are_heights 1 (at 0 4) windmill (pos 4 ∷ [])) refl

abbrev four_times : Leaf → List Leaf
four_times l = l ∷ l ∷ l ∷ l ∷ []

abbrev sails : CentresAnswer
sails = record {
  size = fraction 1 1;
  squares = over 1 5 1 ∷ over 11 7 1 ∷ over 5 1 1 ∷ over 7 11 1 ∷ [];
  leaves = four_times (leaf 1 2) ++ four_times (leaf 1 2) ++ four_times (leaf 1 2) ++ four_times (leaf 1 2);
}

windmill_passes : PassesFour windmill sails
windmill_passes = by_test (four_passes windmill sails (at 0 4) (pos 4 ∷ []) windmill_least windmill_heights) refl

-- ---- two heights

abbrev lower_beside : List PlanePoint
lower_beside = at 0 1 ∷ at 2 0 ∷ at 20 0 ∷ at 40 0 ∷ at 60 0 ∷ at 1 0 ∷ []

beside_least : IsLeastPoint lower_beside (at 0 1)
beside_least = by_test (least_point lower_beside (at 0 1)) refl

two_heights : AreHeights 1 (at 0 1) lower_beside (pos 0 ∷ pos 1 ∷ [])
two_heights = by_test (are_heights 1 (at 0 1) lower_beside (pos 0 ∷ pos 1 ∷ [])) refl

-- the first square at height 1 leaves the last point over, and at height 0 it does not
abbrev eight_above : List Leaf
eight_above = leaf 3 4 ∷ leaf 2 3 ∷ leaf 3 4 ∷ leaf 2 3 ∷ leaf 2 3 ∷ leaf 2 5 ∷ leaf 2 3 ∷ leaf 2 5 ∷ []

abbrev beside : List Leaf → CentresAnswer
beside leaves = record { size = fraction 1 1; squares = over 1 1 1 ∷ over 20 0 1 ∷ over 40 0 1 ∷ over 60 0 1 ∷ []; leaves = leaves }

by_height : PassesFour lower_beside (beside (eight ++ eight ++ eight_above ++ eight_above))
by_height = by_test (four_passes lower_beside (beside (eight ++ eight ++ eight_above ++ eight_above)) (at 0 1) (pos 0 ∷ pos 1 ∷ []) beside_least two_heights) refl

upper_first : ¬ PassesFour lower_beside (beside (eight_above ++ eight_above ++ eight ++ eight))
upper_first = by_one_failure (four_passes lower_beside (beside (eight_above ++ eight_above ++ eight ++ eight)) (at 0 1) (pos 0 ∷ pos 1 ∷ []) beside_least two_heights) refl refl

one_height : ¬ PassesFour lower_beside (beside (eight ++ eight))
one_height = by_one_failure (four_passes lower_beside (beside (eight ++ eight)) (at 0 1) (pos 0 ∷ pos 1 ∷ []) beside_least two_heights) refl refl

-- a height is the y of a point, not above the least one and not more than a side below it, and each is listed once, from the lowest up
not_met : ¬ AreHeights 2 (at 0 2) (at 0 2 ∷ at 3 0 ∷ []) (pos 0 ∷ pos 1 ∷ pos 2 ∷ [])
not_met = by_one_failure (are_heights 2 (at 0 2) (at 0 2 ∷ at 3 0 ∷ []) (pos 0 ∷ pos 1 ∷ pos 2 ∷ [])) refl refl

above_least : ¬ AreHeights 2 (at 0 2) (at 0 2 ∷ at 3 3 ∷ []) (pos 2 ∷ pos 3 ∷ [])
above_least = by_one_failure (are_heights 2 (at 0 2) (at 0 2 ∷ at 3 3 ∷ []) (pos 2 ∷ pos 3 ∷ [])) refl refl

beyond_a_side : ¬ AreHeights 1 (at 0 2) (at 0 2 ∷ at 3 0 ∷ []) (pos 0 ∷ pos 2 ∷ [])
beyond_a_side = by_one_failure (are_heights 1 (at 0 2) (at 0 2 ∷ at 3 0 ∷ []) (pos 0 ∷ pos 2 ∷ [])) refl refl

left_out : ¬ AreHeights 2 (at 0 2) (at 0 2 ∷ at 3 0 ∷ []) (pos 2 ∷ [])
left_out = by_one_failure (are_heights 2 (at 0 2) (at 0 2 ∷ at 3 0 ∷ []) (pos 2 ∷ [])) refl refl

descending : ¬ AreHeights 2 (at 0 2) (at 0 2 ∷ at 3 0 ∷ []) (pos 2 ∷ pos 0 ∷ [])
descending = by_one_failure (are_heights 2 (at 0 2) (at 0 2 ∷ at 3 0 ∷ []) (pos 2 ∷ pos 0 ∷ [])) refl refl

twice : ¬ AreHeights 2 (at 0 2) (at 0 2 ∷ at 3 2 ∷ []) (pos 2 ∷ pos 2 ∷ [])
twice = by_one_failure (are_heights 2 (at 0 2) (at 0 2 ∷ at 3 2 ∷ []) (pos 2 ∷ pos 2 ∷ [])) refl refl

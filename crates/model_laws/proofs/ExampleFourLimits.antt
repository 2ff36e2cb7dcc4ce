-- Four centres at the limits of their numbers, and past one of them.
use Rattle.std.proofs.Common.{refl, ℕ, zero, suc, pos, List, [], ◌∷◌, ◌++◌}
use Rattle.bounds_model.specs.Plane.{PlanePoint, PlaneRatio, IsLeastPoint}
use Rattle.bounds_model.specs.Fractions.{Fraction}
use Rattle.bounds_model.specs.CentresAnswer.{Leaf, CentresAnswer}
use Rattle.bounds_model.specs.FourAnswer.{AreHeights, FourRanges, PassesFour}
use Rattle.model_laws.proofs.Decisions.{by_test, by_one_failure}
use Rattle.model_laws.proofs.DecideKgon.{least_point}
use Rattle.model_laws.proofs.DecideFour.{are_heights, four_ranges, four_passes}
use Rattle.model_laws.proofs.Literals.{minus, at, left_at, over, signed_over, fraction, leaf}

abbrev eight : List Leaf
eight = leaf 3 4 ∷ leaf 2 3 ∷ leaf 3 4 ∷ leaf 2 3 ∷ leaf 2 3 ∷ leaf 1 2 ∷ leaf 2 3 ∷ leaf 1 2 ∷ []

-- ---- squares of size 0, which have no leaves

abbrev alone : List PlanePoint
alone = at 0 0 ∷ at 5 5 ∷ at 9 0 ∷ at 20 20 ∷ []

alone_least : IsLeastPoint alone (at 0 0)
alone_least = by_test (least_point alone (at 0 0)) refl

abbrev points_alone : Fraction → List Leaf → CentresAnswer
points_alone size leaves = record { size = size; squares = over 0 0 1 ∷ over 5 5 1 ∷ over 9 0 1 ∷ over 20 20 1 ∷ []; leaves = leaves }

alone_passes : PassesFour alone (points_alone (fraction 0 1) [])
alone_passes = by_test (four_passes alone (points_alone (fraction 0 1) []) (at 0 0) [] alone_least tt) refl

a_leaf_too_many : ¬ PassesFour alone (points_alone (fraction 0 1) (leaf 0 1 ∷ []))
a_leaf_too_many = by_one_failure (four_passes alone (points_alone (fraction 0 1) (leaf 0 1 ∷ [])) (at 0 0) [] alone_least tt) refl refl

-- halves alone: a third is a side of 0
a_third : ¬ PassesFour alone (points_alone (fraction 1 3) [])
a_third = by_one_failure (four_passes alone (points_alone (fraction 1 3) []) (at 0 0) [] alone_least tt) refl refl

unreduced_size : ¬ PassesFour alone (points_alone (fraction 0 2) [])
unreduced_size = by_one_failure (four_passes alone (points_alone (fraction 0 2) []) (at 0 0) [] alone_least tt) refl refl

-- ---- a number that is no point's, where the point would be the origin

abbrev around_origin : List PlanePoint
around_origin = left_at 10 0 ∷ left_at 9 0 ∷ at 0 0 ∷ at 10 0 ∷ at 20 0 ∷ []

origin_least : IsLeastPoint around_origin (left_at 10 0)
origin_least = by_test (least_point around_origin (left_at 10 0)) refl

origin_heights : AreHeights 0 (left_at 10 0) around_origin (pos 0 ∷ [])
origin_heights = by_test (are_heights 0 (left_at 10 0) around_origin (pos 0 ∷ [])) refl

abbrev last_leaf : Leaf → CentresAnswer
last_leaf l = record {
  size = fraction 1 2;
  squares = over 1 1 2 ∷ over 21 1 2 ∷ over 41 1 2 ∷ signed_over (minus 19) (pos 1) (pos 2) ∷ [];
  leaves = eight ++ (leaf 3 4 ∷ leaf 2 3 ∷ leaf 3 4 ∷ leaf 2 3 ∷ leaf 2 3 ∷ leaf 1 2 ∷ leaf 2 3 ∷ l ∷ []);
}

within_list : PassesFour around_origin (last_leaf (leaf 1 2))
within_list = by_test (four_passes around_origin (last_leaf (leaf 1 2)) (left_at 10 0) (pos 0 ∷ []) origin_least origin_heights) refl

first_beyond : ¬ PassesFour around_origin (last_leaf (leaf 9 1))
first_beyond = by_one_failure (four_passes around_origin (last_leaf (leaf 9 1)) (left_at 10 0) (pos 0 ∷ []) origin_least origin_heights) refl refl

second_beyond : ¬ PassesFour around_origin (last_leaf (leaf 1 9))
second_beyond = by_one_failure (four_passes around_origin (last_leaf (leaf 1 9)) (left_at 10 0) (pos 0 ∷ []) origin_least origin_heights) refl refl

-- ---- a last point with a square of its own, and its centre anywhere near

abbrev with_last : PlanePoint → List PlanePoint
with_last p = at 0 0 ∷ at 2 0 ∷ at 20 0 ∷ at 40 0 ∷ p ∷ []

abbrev last_centre : PlaneRatio → CentresAnswer
last_centre c = record { size = fraction 1 1; squares = over 1 1 1 ∷ over 20 0 1 ∷ over 40 0 1 ∷ c ∷ []; leaves = eight ++ eight }

far_least : IsLeastPoint (with_last (at 1000000 0)) (at 0 0)
far_least = by_test (least_point (with_last (at 1000000 0)) (at 0 0)) refl

far_heights : AreHeights 1 (at 0 0) (with_last (at 1000000 0)) (pos 0 ∷ [])
far_heights = by_test (are_heights 1 (at 0 0) (with_last (at 1000000 0)) (pos 0 ∷ [])) refl

farthest : PassesFour (with_last (at 1000000 0)) (last_centre (over 1000000 1 1))
farthest = by_test (four_passes (with_last (at 1000000 0)) (last_centre (over 1000000 1 1)) (at 0 0) (pos 0 ∷ []) far_least far_heights) refl

too_far : ¬ PassesFour (with_last (at 1000000 0)) (last_centre (over 1000001 0 1))
too_far = by_one_failure (four_passes (with_last (at 1000000 0)) (last_centre (over 1000001 0 1)) (at 0 0) (pos 0 ∷ []) far_least far_heights) refl refl

near_least : IsLeastPoint (with_last (at 60 0)) (at 0 0)
near_least = by_test (least_point (with_last (at 60 0)) (at 0 0)) refl

near_heights : AreHeights 1 (at 0 0) (with_last (at 60 0)) (pos 0 ∷ [])
near_heights = by_test (are_heights 1 (at 0 0) (with_last (at 60 0)) (pos 0 ∷ [])) refl

centre_of_thirds : ¬ PassesFour (with_last (at 60 0)) (last_centre (over 181 1 3))
centre_of_thirds = by_one_failure (four_passes (with_last (at 60 0)) (last_centre (over 181 1 3)) (at 0 0) (pos 0 ∷ []) near_least near_heights) refl refl

-- ---- five points of which each two are more than a side less by 1 apart, and the first two no more than a side

abbrev spread : ℕ → ℕ → List PlanePoint
spread left right = left_at left 0 ∷ at right 0 ∷ left_at left 1000001 ∷ at 600001 1000001 ∷ record { x = pos 0; y = minus 1000001 } ∷ []

abbrev of_size : ℕ → ℕ → CentresAnswer
of_size left n = record {
  size = fraction n 2;
  squares = over 1 0 2 ∷ signed_over (minus left) (pos 1000000) (pos 1) ∷ over 600001 1000000 1 ∷ signed_over (pos 0) (minus 1000000) (pos 1) ∷ [];
  leaves = leaf 1 2 ∷ leaf 2 3 ∷ leaf 1 3 ∷ leaf 1 2 ∷ leaf 1 2 ∷ leaf 2 3 ∷ leaf 1 3 ∷ leaf 1 2 ∷ leaf 1 3 ∷ leaf 1 3 ∷ leaf 1 4 ∷ leaf 1 4 ∷ leaf 1 2 ∷ leaf 1 2 ∷ leaf 1 4 ∷ leaf 1 2 ∷ [];
}

smaller_least : IsLeastPoint (spread 499999 500000) (left_at 499999 0)
smaller_least = by_test (least_point (spread 499999 500000) (left_at 499999 0)) refl

smaller_heights : AreHeights 999998 (left_at 499999 0) (spread 499999 500000) (pos 0 ∷ [])
smaller_heights = by_test (are_heights 999998 (left_at 499999 0) (spread 499999 500000) (pos 0 ∷ [])) refl

large_size : PassesFour (spread 499999 500000) (of_size 499999 999999)
large_size = by_test (four_passes (spread 499999 500000) (of_size 499999 999999) (left_at 499999 0) (pos 0 ∷ []) smaller_least smaller_heights) refl

larger_least : IsLeastPoint (spread 500000 500001) (left_at 500000 0)
larger_least = by_test (least_point (spread 500000 500001) (left_at 500000 0)) refl

larger_heights : AreHeights 1000000 (left_at 500000 0) (spread 500000 500001) (pos 0 ∷ [])
larger_heights = by_test (are_heights 1000000 (left_at 500000 0) (spread 500000 500001) (pos 0 ∷ [])) refl

too_large_size : ¬ PassesFour (spread 500000 500001) (of_size 500000 1000001)
too_large_size = by_one_failure (four_passes (spread 500000 500001) (of_size 500000 1000001) (left_at 500000 0) (pos 0 ∷ []) larger_least larger_heights) refl refl

-- ---- ranges

-- so many leaves
abbrev many : ℕ → List Leaf
many zero = []
many (suc count) = leaf 9999 9999 ∷ many count

many_leaves : FourRanges (points_alone (fraction 0 1) (many 20))
many_leaves = by_test (four_ranges (points_alone (fraction 0 1) (many 20))) refl

too_many_leaves : ¬ FourRanges (points_alone (fraction 0 1) (many 16001))
too_many_leaves = by_one_failure (four_ranges (points_alone (fraction 0 1) (many 16001))) refl refl

first_past : ¬ FourRanges (points_alone (fraction 0 1) (leaf 10000 0 ∷ []))
first_past = by_one_failure (four_ranges (points_alone (fraction 0 1) (leaf 10000 0 ∷ []))) refl refl

second_past : ¬ FourRanges (points_alone (fraction 0 1) (leaf 0 10000 ∷ []))
second_past = by_one_failure (four_ranges (points_alone (fraction 0 1) (leaf 0 10000 ∷ []))) refl refl

abbrev with_squares : List PlaneRatio → CentresAnswer
with_squares squares = record { size = fraction 0 1; squares = squares; leaves = [] }

three_squares : ¬ FourRanges (with_squares (over 0 0 1 ∷ over 0 0 1 ∷ over 0 0 1 ∷ []))
three_squares = by_one_failure (four_ranges (with_squares (over 0 0 1 ∷ over 0 0 1 ∷ over 0 0 1 ∷ []))) refl refl

five_squares : ¬ FourRanges (with_squares (over 0 0 1 ∷ over 0 0 1 ∷ over 0 0 1 ∷ over 0 0 1 ∷ over 0 0 1 ∷ []))
five_squares = by_one_failure (four_ranges (with_squares (over 0 0 1 ∷ over 0 0 1 ∷ over 0 0 1 ∷ over 0 0 1 ∷ over 0 0 1 ∷ []))) refl refl

-- Empty rectangles outside the frame, in frames without an inside, smaller than another, or with numbers past their ranges.
use Rattle.std.proofs.Common.{refl, ℕ, ◌+◌, ◌^◌, pos, List, [], ◌∷◌}
use Rattle.bounds_model.specs.Plane.{PlanePoint}
use Rattle.bounds_model.specs.Fractions.{Fraction}
use Rattle.bounds_model.specs.EmptyRectangle.{Box}
use Rattle.bounds_model.specs.EmptyAnswer.{EmptyAnswer, EmptyRanges, PassesEmpty}
use Rattle.bounds_model.specs.EmptyAnswer.Blocker.{side, point}
use Rattle.model_laws.proofs.Decisions.{by_test, by_failed_test, by_one_failure}
use Rattle.model_laws.proofs.DecideEmpty.{empty_ranges, empty_passes}
use Rattle.model_laws.proofs.Literals.{minus, at, left_at, signed_at, fraction, box, signed_box}

-- ---- a box that reaches out of the frame, to a point there

abbrev reaching : Fraction → Box → EmptyAnswer
reaching size b = record { size = size; box = b; left = side; bottom = side; right = side; top = side }

-- with the origin in the middle
abbrev frame : Box
frame = signed_box (minus 4) (minus 4) (pos 4) (pos 4)

abbrev out_left : EmptyAnswer
out_left = record (reaching (fraction 72 1) (signed_box (minus 5) (minus 4) (pos 4) (pos 4))) { left = point 0 }

out_left_fails : ¬ PassesEmpty frame (left_at 5 1 ∷ []) out_left
out_left_fails = by_one_failure (empty_passes frame (left_at 5 1 ∷ []) out_left) refl refl

abbrev out_right : EmptyAnswer
out_right = record (reaching (fraction 72 1) (signed_box (minus 4) (minus 4) (pos 5) (pos 4))) { right = point 0 }

out_right_fails : ¬ PassesEmpty frame (at 5 1 ∷ []) out_right
out_right_fails = by_one_failure (empty_passes frame (at 5 1 ∷ []) out_right) refl refl

abbrev out_bottom : EmptyAnswer
out_bottom = record (reaching (fraction 72 1) (signed_box (minus 4) (minus 5) (pos 4) (pos 4))) { bottom = point 0 }

out_bottom_fails : ¬ PassesEmpty frame (signed_at (pos 1) (minus 5) ∷ []) out_bottom
out_bottom_fails = by_one_failure (empty_passes frame (signed_at (pos 1) (minus 5) ∷ []) out_bottom) refl refl

abbrev out_top : EmptyAnswer
out_top = record (reaching (fraction 72 1) (signed_box (minus 4) (minus 4) (pos 4) (pos 5))) { top = point 0 }

out_top_fails : ¬ PassesEmpty frame (at 1 5 ∷ []) out_top
out_top_fails = by_one_failure (empty_passes frame (at 1 5 ∷ []) out_top) refl refl

-- ---- a frame without a width, or without a height

no_width : ¬ PassesEmpty (box 0 0 0 4) [] (reaching (fraction 0 1) (box 0 0 0 4))
no_width = by_one_failure (empty_passes (box 0 0 0 4) [] (reaching (fraction 0 1) (box 0 0 0 4))) refl refl

no_height : ¬ PassesEmpty (box 0 0 4 0) [] (reaching (fraction 0 1) (box 0 0 4 0))
no_height = by_one_failure (empty_passes (box 0 0 4 0) [] (reaching (fraction 0 1) (box 0 0 4 0))) refl refl

-- ---- half of a frame from 0 to 4 beside a point, where more would be empty

-- the part of the frame to the left or right, below or above
abbrev part : Box → EmptyAnswer
part = reaching (fraction 8 1)

-- the larger one is above the point
left_of_more : ¬ PassesEmpty (box 0 0 4 4) (at 2 1 ∷ []) (record (part (box 0 0 2 4)) { right = point 0 })
left_of_more = by_failed_test (empty_passes (box 0 0 4 4) (at 2 1 ∷ []) (record (part (box 0 0 2 4)) { right = point 0 })) refl

-- the larger one is below it
left_of_more_below : ¬ PassesEmpty (box 0 0 4 4) (at 2 3 ∷ []) (record (part (box 0 0 2 4)) { right = point 0 })
left_of_more_below = by_failed_test (empty_passes (box 0 0 4 4) (at 2 3 ∷ []) (record (part (box 0 0 2 4)) { right = point 0 })) refl

-- the larger one is to the right of it
below_more_right : ¬ PassesEmpty (box 0 0 4 4) (at 1 2 ∷ []) (record (part (box 0 0 4 2)) { top = point 0 })
below_more_right = by_failed_test (empty_passes (box 0 0 4 4) (at 1 2 ∷ []) (record (part (box 0 0 4 2)) { top = point 0 })) refl

-- the larger one is to the left of it
below_more_left : ¬ PassesEmpty (box 0 0 4 4) (at 3 2 ∷ []) (record (part (box 0 0 4 2)) { top = point 0 })
below_more_left = by_failed_test (empty_passes (box 0 0 4 4) (at 3 2 ∷ []) (record (part (box 0 0 4 2)) { top = point 0 })) refl

abbrev two_points : List PlanePoint
two_points = at 1 1 ∷ at 3 3 ∷ []

-- the larger one reaches from the height of one point to that of the other
abbrev three_rows : List PlanePoint
three_rows = at 2 1 ∷ at 2 5 ∷ []

between_rows : PassesEmpty (box 0 0 4 6) three_rows (record (reaching (fraction 16 1) (box 0 1 4 5)) { bottom = point 0; top = point 1 })
between_rows =
    by_test (empty_passes (box 0 0 4 6) three_rows (record (reaching (fraction 16 1) (box 0 1 4 5)) { bottom = point 0; top = point 1 })) refl

left_of_rows : ¬ PassesEmpty (box 0 0 4 6) three_rows (record (reaching (fraction 12 1) (box 0 0 2 6)) { right = point 0 })
left_of_rows = by_failed_test (empty_passes (box 0 0 4 6) three_rows (record (reaching (fraction 12 1) (box 0 0 2 6)) { right = point 0 })) refl

abbrev between_columns : EmptyAnswer
between_columns = record (reaching (fraction 16 1) (box 1 0 5 4)) { left = point 0; right = point 1 }

between_columns_passes : PassesEmpty (box 0 0 6 4) (at 1 2 ∷ at 5 2 ∷ []) between_columns
between_columns_passes = by_test (empty_passes (box 0 0 6 4) (at 1 2 ∷ at 5 2 ∷ []) between_columns) refl

below_columns : ¬ PassesEmpty (box 0 0 6 4) (at 1 2 ∷ at 5 2 ∷ []) (record (reaching (fraction 12 1) (box 0 0 6 2)) { top = point 0 })
below_columns =
    by_failed_test (empty_passes (box 0 0 6 4) (at 1 2 ∷ at 5 2 ∷ []) (record (reaching (fraction 12 1) (box 0 0 6 2)) { top = point 0 })) refl

-- ---- ranges

abbrev whole : EmptyAnswer
whole = reaching (fraction 1 1) (box 0 0 1 1)

abbrev past : ℕ
past = 2 ^ 126 + 1

in_ranges : EmptyRanges (record whole { left = point 9999; bottom = point 9999; right = point 9999; top = point 9999 })
in_ranges = by_test (empty_ranges (record whole { left = point 9999; bottom = point 9999; right = point 9999; top = point 9999 })) refl

left_past : ¬ EmptyRanges (record whole { box = box past 0 0 0 })
left_past = by_one_failure (empty_ranges (record whole { box = box past 0 0 0 })) refl refl

bottom_past : ¬ EmptyRanges (record whole { box = box 0 past 0 0 })
bottom_past = by_one_failure (empty_ranges (record whole { box = box 0 past 0 0 })) refl refl

right_past : ¬ EmptyRanges (record whole { box = box 0 0 past 0 })
right_past = by_one_failure (empty_ranges (record whole { box = box 0 0 past 0 })) refl refl

top_past : ¬ EmptyRanges (record whole { box = box 0 0 0 past })
top_past = by_one_failure (empty_ranges (record whole { box = box 0 0 0 past })) refl refl

left_point_past : ¬ EmptyRanges (record whole { left = point 10000 })
left_point_past = by_one_failure (empty_ranges (record whole { left = point 10000 })) refl refl

bottom_point_past : ¬ EmptyRanges (record whole { bottom = point 10000 })
bottom_point_past = by_one_failure (empty_ranges (record whole { bottom = point 10000 })) refl refl

right_point_past : ¬ EmptyRanges (record whole { right = point 10000 })
right_point_past = by_one_failure (empty_ranges (record whole { right = point 10000 })) refl refl

top_point_past : ¬ EmptyRanges (record whole { top = point 10000 })
top_point_past = by_one_failure (empty_ranges (record whole { top = point 10000 })) refl refl

size_past : ¬ EmptyRanges (record whole { size = fraction past 1 })
size_past = by_one_failure (empty_ranges (record whole { size = fraction past 1 })) refl refl

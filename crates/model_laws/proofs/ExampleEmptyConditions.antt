-- Empty rectangles that fail in one of the conditions of a checker alone.
use Rattle.std.proofs.Common.{refl, pos, List, [], ◌∷◌}
use Rattle.bounds_model.specs.Plane.{PlanePoint}
use Rattle.bounds_model.specs.EmptyRectangle.{Box}
use Rattle.bounds_model.specs.EmptyAnswer.{Blocker, EmptyAnswer, PassesEmpty}
use Rattle.bounds_model.specs.EmptyAnswer.Blocker.{side, point}
use Rattle.model_laws.proofs.Decisions.{by_test, by_one_failure}
use Rattle.model_laws.proofs.DecideEmpty.{empty_passes}
use Rattle.model_laws.proofs.Literals.{minus, at, left_at, signed_at, fraction, signed_box}

abbrev frame : Box
frame = signed_box (minus 4) (minus 4) (pos 4) (pos 4)

abbrev half_of : Box → EmptyAnswer
half_of b = record { size = fraction 32 1; box = b; left = side; bottom = side; right = side; top = side }

-- the halves of the frame, each with this blocker on the side that parts them
abbrev right_half : Blocker → EmptyAnswer
right_half b = record (half_of (signed_box (pos 0) (minus 4) (pos 4) (pos 4))) { left = b }

abbrev left_half : Blocker → EmptyAnswer
left_half b = record (half_of (signed_box (minus 4) (minus 4) (pos 0) (pos 4))) { right = b }

abbrev upper_half : Blocker → EmptyAnswer
upper_half b = record (half_of (signed_box (minus 4) (pos 0) (pos 4) (pos 4))) { bottom = b }

abbrev lower_half : Blocker → EmptyAnswer
lower_half b = record (half_of (signed_box (minus 4) (minus 4) (pos 4) (pos 0))) { top = b }

-- ---- beside the origin, which holds one side

contains_left : PassesEmpty frame (at 0 0 ∷ []) (right_half (point 0))
contains_left = by_test (empty_passes frame (at 0 0 ∷ []) (right_half (point 0))) refl

contains_right : PassesEmpty frame (at 0 0 ∷ []) (left_half (point 0))
contains_right = by_test (empty_passes frame (at 0 0 ∷ []) (left_half (point 0))) refl

contains_bottom : PassesEmpty frame (at 0 0 ∷ []) (upper_half (point 0))
contains_bottom = by_test (empty_passes frame (at 0 0 ∷ []) (upper_half (point 0))) refl

contains_top : PassesEmpty frame (at 0 0 ∷ []) (lower_half (point 0))
contains_top = by_test (empty_passes frame (at 0 0 ∷ []) (lower_half (point 0))) refl

-- a number that is no point's, where the point would be the origin
left_beyond : ¬ PassesEmpty frame (at 0 0 ∷ []) (right_half (point 9))
left_beyond = by_one_failure (empty_passes frame (at 0 0 ∷ []) (right_half (point 9))) refl refl

right_beyond : ¬ PassesEmpty frame (at 0 0 ∷ []) (left_half (point 9))
right_beyond = by_one_failure (empty_passes frame (at 0 0 ∷ []) (left_half (point 9))) refl refl

bottom_beyond : ¬ PassesEmpty frame (at 0 0 ∷ []) (upper_half (point 9))
bottom_beyond = by_one_failure (empty_passes frame (at 0 0 ∷ []) (upper_half (point 9))) refl refl

top_beyond : ¬ PassesEmpty frame (at 0 0 ∷ []) (lower_half (point 9))
top_beyond = by_one_failure (empty_passes frame (at 0 0 ∷ []) (lower_half (point 9))) refl refl

-- a side that rests on the frame's, and is not there
left_on_frame : ¬ PassesEmpty frame (at 0 0 ∷ []) (right_half side)
left_on_frame = by_one_failure (empty_passes frame (at 0 0 ∷ []) (right_half side)) refl refl

right_on_frame : ¬ PassesEmpty frame (at 0 0 ∷ []) (left_half side)
right_on_frame = by_one_failure (empty_passes frame (at 0 0 ∷ []) (left_half side)) refl refl

bottom_on_frame : ¬ PassesEmpty frame (at 0 0 ∷ []) (upper_half side)
bottom_on_frame = by_one_failure (empty_passes frame (at 0 0 ∷ []) (upper_half side)) refl refl

top_on_frame : ¬ PassesEmpty frame (at 0 0 ∷ []) (lower_half side)
top_on_frame = by_one_failure (empty_passes frame (at 0 0 ∷ []) (lower_half side)) refl refl

unreduced : ¬ PassesEmpty frame (at 0 0 ∷ []) (record (right_half (point 0)) { size = fraction 64 2 })
unreduced = by_one_failure (empty_passes frame (at 0 0 ∷ []) (record (right_half (point 0)) { size = fraction 64 2 })) refl refl

other_size : ¬ PassesEmpty frame (at 0 0 ∷ []) (record (right_half (point 0)) { size = fraction 33 1 })
other_size = by_one_failure (empty_passes frame (at 0 0 ∷ []) (record (right_half (point 0)) { size = fraction 33 1 })) refl refl

abbrev not_empty : EmptyAnswer
not_empty = record { size = fraction 64 1; box = frame; left = side; bottom = side; right = side; top = side }

not_empty_fails : ¬ PassesEmpty frame (at 0 0 ∷ []) not_empty
not_empty_fails = by_one_failure (empty_passes frame (at 0 0 ∷ []) not_empty) refl refl

-- ---- a blocker is on its side, between the ends of it

-- the origin, the two ends of a vertical line through it, and a point beside that line
abbrev vertical_line : List PlanePoint
vertical_line = at 0 0 ∷ signed_at (pos 0) (minus 4) ∷ at 0 4 ∷ left_at 1 1 ∷ []

abbrev level_line : List PlanePoint
level_line = at 0 0 ∷ left_at 4 0 ∷ at 4 0 ∷ signed_at (pos 1) (minus 1) ∷ []

vertical_middle : PassesEmpty frame vertical_line (right_half (point 0))
vertical_middle = by_test (empty_passes frame vertical_line (right_half (point 0))) refl

lower_end : ¬ PassesEmpty frame vertical_line (right_half (point 1))
lower_end = by_one_failure (empty_passes frame vertical_line (right_half (point 1))) refl refl

upper_end : ¬ PassesEmpty frame vertical_line (right_half (point 2))
upper_end = by_one_failure (empty_passes frame vertical_line (right_half (point 2))) refl refl

beside_line : ¬ PassesEmpty frame vertical_line (right_half (point 3))
beside_line = by_one_failure (empty_passes frame vertical_line (right_half (point 3))) refl refl

level_middle : PassesEmpty frame level_line (upper_half (point 0))
level_middle = by_test (empty_passes frame level_line (upper_half (point 0))) refl

left_end : ¬ PassesEmpty frame level_line (upper_half (point 1))
left_end = by_one_failure (empty_passes frame level_line (upper_half (point 1))) refl refl

right_end : ¬ PassesEmpty frame level_line (upper_half (point 2))
right_end = by_one_failure (empty_passes frame level_line (upper_half (point 2))) refl refl

under_line : ¬ PassesEmpty frame level_line (upper_half (point 3))
under_line = by_one_failure (empty_passes frame level_line (upper_half (point 3))) refl refl

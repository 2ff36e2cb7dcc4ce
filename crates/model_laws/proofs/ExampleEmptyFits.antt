-- Frames, points inside boxes, and empty rectangles that fit or fail in one condition alone.
use Rattle.std.proofs.Common.{◌≡◌, refl, ℕ, pos, List, [], ◌∷◌}
use Rattle.bounds_model.specs.Plane.{PlanePoint}
use Rattle.bounds_model.specs.EmptyRectangle.{Box, IsFrame, IsStrictlyInside, EmptyRectangle, FitsEmpty, empty_size}
use Rattle.model_laws.proofs.Decisions.{by_test, by_one_failure}
use Rattle.model_laws.proofs.DecideEmpty.{strictly_inside}
use Rattle.model_laws.proofs.DecideFits.{is_frame, fits_empty}
use Rattle.model_laws.proofs.Literals.{minus, at, fraction, box, signed_box}

-- ---- frames

largest_frame : IsFrame (signed_box (minus 200000) (minus 200000) (pos 200000) (pos 200000))
largest_frame = by_test (is_frame (signed_box (minus 200000) (minus 200000) (pos 200000) (pos 200000))) refl

past_left : ¬ IsFrame (signed_box (minus 200001) (pos 0) (pos 4) (pos 4))
past_left = by_one_failure (is_frame (signed_box (minus 200001) (pos 0) (pos 4) (pos 4))) refl refl

past_bottom : ¬ IsFrame (signed_box (pos 0) (minus 200001) (pos 4) (pos 4))
past_bottom = by_one_failure (is_frame (signed_box (pos 0) (minus 200001) (pos 4) (pos 4))) refl refl

past_right : ¬ IsFrame (box 0 0 200001 4)
past_right = by_one_failure (is_frame (box 0 0 200001 4)) refl refl

past_top : ¬ IsFrame (box 0 0 4 200001)
past_top = by_one_failure (is_frame (box 0 0 4 200001)) refl refl

no_width : ¬ IsFrame (box 4 0 4 4)
no_width = by_one_failure (is_frame (box 4 0 4 4)) refl refl

no_height : ¬ IsFrame (box 0 4 4 4)
no_height = by_one_failure (is_frame (box 0 4 4 4)) refl refl

-- ---- strictly inside a box

near_corner : IsStrictlyInside (box 0 0 4 4) (at 1 3)
near_corner = by_test (strictly_inside (box 0 0 4 4) (at 1 3)) refl

on_left : ¬ IsStrictlyInside (box 0 0 4 4) (at 0 2)
on_left = by_one_failure (strictly_inside (box 0 0 4 4) (at 0 2)) refl refl

on_right : ¬ IsStrictlyInside (box 0 0 4 4) (at 4 2)
on_right = by_one_failure (strictly_inside (box 0 0 4 4) (at 4 2)) refl refl

on_bottom : ¬ IsStrictlyInside (box 0 0 4 4) (at 2 0)
on_bottom = by_one_failure (strictly_inside (box 0 0 4 4) (at 2 0)) refl refl

on_top : ¬ IsStrictlyInside (box 0 0 4 4) (at 2 4)
on_top = by_one_failure (strictly_inside (box 0 0 4 4) (at 2 4)) refl refl

-- ---- empty rectangles in the frame from 0 to 4, beside the point (1, 2)

abbrev one_point : List PlanePoint
one_point = at 1 2 ∷ []

-- a box whose numbers are divided by w
abbrev divided : Box → ℕ → EmptyRectangle
divided b w = record { box = b; w = pos w }

beside : FitsEmpty (box 0 0 4 4) one_point (divided (box 2 0 8 8) 2)
beside = by_test (fits_empty (box 0 0 4 4) one_point (divided (box 2 0 8 8) 2)) refl

-- a rectangle may be one point
no_inside : FitsEmpty (box 0 0 4 4) one_point (divided (box 2 3 2 3) 2)
no_inside = by_test (fits_empty (box 0 0 4 4) one_point (divided (box 2 3 2 3) 2)) refl

its_area : empty_size (divided (box 2 0 8 8) 2) ≡ fraction 48 4
its_area = refl

over_zero : ¬ FitsEmpty (box 0 0 4 4) one_point (divided (box 0 0 0 0) 0)
over_zero = by_one_failure (fits_empty (box 0 0 4 4) one_point (divided (box 0 0 0 0) 0)) refl refl

sides_exchanged : ¬ FitsEmpty (box 0 0 4 4) one_point (divided (box 6 0 2 8) 2)
sides_exchanged = by_one_failure (fits_empty (box 0 0 4 4) one_point (divided (box 6 0 2 8) 2)) refl refl

ends_exchanged : ¬ FitsEmpty (box 0 0 4 4) one_point (divided (box 2 6 8 2) 2)
ends_exchanged = by_one_failure (fits_empty (box 0 0 4 4) one_point (divided (box 2 6 8 2) 2)) refl refl

left_of_frame : ¬ FitsEmpty (box 0 0 4 4) one_point (divided (signed_box (minus 1) (pos 0) (pos 2) (pos 8)) 2)
left_of_frame = by_one_failure (fits_empty (box 0 0 4 4) one_point (divided (signed_box (minus 1) (pos 0) (pos 2) (pos 8)) 2)) refl refl

right_of_frame : ¬ FitsEmpty (box 0 0 4 4) one_point (divided (box 2 0 9 8) 2)
right_of_frame = by_one_failure (fits_empty (box 0 0 4 4) one_point (divided (box 2 0 9 8) 2)) refl refl

under_frame : ¬ FitsEmpty (box 0 0 4 4) one_point (divided (signed_box (pos 2) (minus 1) (pos 8) (pos 8)) 2)
under_frame = by_one_failure (fits_empty (box 0 0 4 4) one_point (divided (signed_box (pos 2) (minus 1) (pos 8) (pos 8)) 2)) refl refl

over_frame : ¬ FitsEmpty (box 0 0 4 4) one_point (divided (box 2 0 8 9) 2)
over_frame = by_one_failure (fits_empty (box 0 0 4 4) one_point (divided (box 2 0 8 9) 2)) refl refl

not_empty : ¬ FitsEmpty (box 0 0 4 4) one_point (divided (box 0 0 8 8) 2)
not_empty = by_one_failure (fits_empty (box 0 0 4 4) one_point (divided (box 0 0 8 8) 2)) refl refl

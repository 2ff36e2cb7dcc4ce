-- Empty rectangles that pass, and spoilt ones that do not.
use Rattle.std.proofs.Common.{refl, List, [], ◌∷◌}
use Rattle.bounds_model.specs.Plane.{PlanePoint}
use Rattle.bounds_model.specs.EmptyRectangle.{Box}
use Rattle.bounds_model.specs.EmptyAnswer.{EmptyAnswer}
use Rattle.bounds_model.specs.EmptyAnswer.Blocker.{side, point}
use Rattle.bounds_model.specs.Asks.Ask.{ask_empty}
use Rattle.bounds_model.specs.Asks.Sets.{plane, bare}
use Rattle.bounds_model.specs.Answers.{Passes}
use Rattle.bounds_model.specs.Answers.Answer.{empty}
use Rattle.model_laws.proofs.Decisions.{by_test, by_failed_test, by_one_failure}
use Rattle.model_laws.proofs.DecideAnswers.{passes}
use Rattle.model_laws.proofs.Literals.{at, fraction, box}

abbrev pub frame : Box
frame = box 0 0 4 4

-- ---- one point in the frame

abbrev pub one_point : List PlanePoint
one_point = at 1 2 ∷ []

abbrev pub beside : EmptyAnswer
beside = record { size = fraction 12 1; box = box 1 0 4 4; left = point 0; bottom = side; right = side; top = side }

beside_passes : Passes (ask_empty frame) (plane one_point) (empty beside)
beside_passes = by_test (passes (ask_empty frame) (plane one_point) (empty beside)) refl

-- a number that is no point's
abbrev beyond : EmptyAnswer
beyond = record beside { left = point 1 }

beyond_fails : ¬ Passes (ask_empty frame) (plane one_point) (empty beyond)
beyond_fails = by_failed_test (passes (ask_empty frame) (plane one_point) (empty beyond)) refl

-- a side that rests on nothing
abbrev resting_on_frame : EmptyAnswer
resting_on_frame = record beside { left = side }

resting_on_frame_fails : ¬ Passes (ask_empty frame) (plane one_point) (empty resting_on_frame)
resting_on_frame_fails = by_one_failure (passes (ask_empty frame) (plane one_point) (empty resting_on_frame)) refl refl

-- the one below the point, which is smaller
abbrev pub below : EmptyAnswer
below = record { size = fraction 8 1; box = box 0 0 4 2; left = side; bottom = side; right = side; top = point 0 }

below_fails : ¬ Passes (ask_empty frame) (plane one_point) (empty below)
below_fails = by_one_failure (passes (ask_empty frame) (plane one_point) (empty below)) refl refl

-- the whole frame, which is not empty
abbrev whole : EmptyAnswer
whole = record { size = fraction 16 1; box = frame; left = side; bottom = side; right = side; top = side }

whole_fails : ¬ Passes (ask_empty frame) (plane one_point) (empty whole)
whole_fails = by_one_failure (passes (ask_empty frame) (plane one_point) (empty whole)) refl refl

-- ---- it passes where no point is strictly inside the frame

whole_of_none_passes : Passes (ask_empty frame) bare (empty whole)
whole_of_none_passes = by_test (passes (ask_empty frame) bare (empty whole)) refl

point_outside_passes : Passes (ask_empty frame) (plane (at 9 9 ∷ [])) (empty whole)
point_outside_passes = by_test (passes (ask_empty frame) (plane (at 9 9 ∷ [])) (empty whole)) refl

point_on_side_passes : Passes (ask_empty frame) (plane (at 0 2 ∷ [])) (empty whole)
point_on_side_passes = by_test (passes (ask_empty frame) (plane (at 0 2 ∷ [])) (empty whole)) refl

-- ---- two points in the frame

abbrev two_points : List PlanePoint
two_points = at 1 1 ∷ at 3 3 ∷ []

abbrev between : EmptyAnswer
between = record { size = fraction 9 1; box = box 1 0 4 3; left = point 0; bottom = side; right = side; top = point 1 }

between_passes : Passes (ask_empty frame) (plane two_points) (empty between)
between_passes = by_test (passes (ask_empty frame) (plane two_points) (empty between)) refl

-- the square that has the two points as its corners
abbrev corner_to_corner : EmptyAnswer
corner_to_corner = record { size = fraction 4 1; box = box 1 1 3 3; left = point 0; bottom = point 0; right = point 1; top = point 1 }

corner_to_corner_fails : ¬ Passes (ask_empty frame) (plane two_points) (empty corner_to_corner)
corner_to_corner_fails = by_failed_test (passes (ask_empty frame) (plane two_points) (empty corner_to_corner)) refl

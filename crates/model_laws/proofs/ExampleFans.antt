-- Fans that hold for points, and some that fail in one condition alone.
use Rattle.std.proofs.Common.{refl, List, [], ◌∷◌}
use Rattle.bounds_model.specs.Plane.{PlanePoint}
use Rattle.bounds_model.specs.Fans.{HalfCone, HalfFan, QuarterCone, QuarterFan, AreExtreme, TurnLeft, east, west, HoldsHalf, HoldsQuarter}
use Rattle.model_laws.proofs.Decisions.{by_test, by_one_failure}
use Rattle.model_laws.proofs.DecideFans.{extreme, turn_left, holds_half, holds_quarter}
use Rattle.model_laws.proofs.ExampleBalls.{triangle}
use Rattle.model_laws.proofs.Literals.{at, left_at, half_cone, quarter_cone}

-- ---- extreme points, and directions that turn left

in_slant : AreExtreme triangle (at 3 4) 2 0
in_slant = by_test (extreme triangle (at 3 4) 2 0) refl

-- the same where another point is as high
in_slant_other : AreExtreme triangle (at 3 4) 1 0
in_slant_other = by_test (extreme triangle (at 3 4) 1 0) refl

not_highest : ¬ AreExtreme triangle (at 1 0) 2 0
not_highest = by_one_failure (extreme triangle (at 1 0) 2 0) refl refl

not_lowest : ¬ AreExtreme triangle (at 1 0) 1 1
not_lowest = by_one_failure (extreme triangle (at 1 0) 1 1) refl refl

half_a_turn : TurnLeft east west (at 1 0 ∷ at 3 4 ∷ at 0 1 ∷ left_at 1 0 ∷ [])
half_a_turn = by_test (turn_left east west (at 1 0 ∷ at 3 4 ∷ at 0 1 ∷ left_at 1 0 ∷ [])) refl

begun_late : ¬ TurnLeft east west (at 3 4 ∷ at 0 1 ∷ left_at 1 0 ∷ [])
begun_late = by_one_failure (turn_left east west (at 3 4 ∷ at 0 1 ∷ left_at 1 0 ∷ [])) refl refl

ended_early : ¬ TurnLeft east west (at 1 0 ∷ at 3 4 ∷ at 0 1 ∷ [])
ended_early = by_one_failure (turn_left east west (at 1 0 ∷ at 3 4 ∷ at 0 1 ∷ [])) refl refl

standing : ¬ TurnLeft east west (at 1 0 ∷ at 3 4 ∷ at 3 4 ∷ at 0 1 ∷ left_at 1 0 ∷ [])
standing = by_one_failure (turn_left east west (at 1 0 ∷ at 3 4 ∷ at 3 4 ∷ at 0 1 ∷ left_at 1 0 ∷ [])) refl refl

back_and_forth : ¬ TurnLeft east west (at 1 0 ∷ at 0 1 ∷ at 3 4 ∷ left_at 1 0 ∷ [])
back_and_forth = by_one_failure (turn_left east west (at 1 0 ∷ at 0 1 ∷ at 3 4 ∷ left_at 1 0 ∷ [])) refl refl

-- half a turn at once is no turn to the left
at_once : ¬ TurnLeft east west (at 1 0 ∷ left_at 1 0 ∷ [])
at_once = by_one_failure (turn_left east west (at 1 0 ∷ left_at 1 0 ∷ [])) refl refl

-- ---- fans over half a turn

abbrev half_fan : List HalfCone → PlanePoint → HalfFan
half_fan cones last = record { cones = cones; last = last }

whole : HoldsHalf triangle (half_fan (half_cone 1 0 1 0 ∷ half_cone 3 4 2 0 ∷ half_cone 0 1 2 1 ∷ []) (left_at 1 0))
whole = by_test (holds_half triangle (half_fan (half_cone 1 0 1 0 ∷ half_cone 3 4 2 0 ∷ half_cone 0 1 2 1 ∷ []) (left_at 1 0))) refl

ends_north : ¬ HoldsHalf triangle (half_fan (half_cone 1 0 1 0 ∷ half_cone 3 4 2 0 ∷ []) (at 0 1))
ends_north = by_one_failure (holds_half triangle (half_fan (half_cone 1 0 1 0 ∷ half_cone 3 4 2 0 ∷ []) (at 0 1))) refl refl

begins_north : ¬ HoldsHalf triangle (half_fan (half_cone 0 1 2 1 ∷ []) (left_at 1 0))
begins_north = by_one_failure (holds_half triangle (half_fan (half_cone 0 1 2 1 ∷ []) (left_at 1 0))) refl refl

-- a point that is highest at one end of its cone alone, or lowest
first_end_lower : ¬ HoldsHalf triangle (half_fan (half_cone 1 0 2 0 ∷ half_cone 3 4 2 0 ∷ half_cone 0 1 2 1 ∷ []) (left_at 1 0))
first_end_lower =
    by_one_failure (holds_half triangle (half_fan (half_cone 1 0 2 0 ∷ half_cone 3 4 2 0 ∷ half_cone 0 1 2 1 ∷ []) (left_at 1 0))) refl refl

second_end_lower : ¬ HoldsHalf triangle (half_fan (half_cone 1 0 1 0 ∷ half_cone 3 4 1 0 ∷ half_cone 0 1 2 1 ∷ []) (left_at 1 0))
second_end_lower =
    by_one_failure (holds_half triangle (half_fan (half_cone 1 0 1 0 ∷ half_cone 3 4 1 0 ∷ half_cone 0 1 2 1 ∷ []) (left_at 1 0))) refl refl

first_end_higher : ¬ HoldsHalf triangle (half_fan (half_cone 1 0 1 0 ∷ half_cone 3 4 2 1 ∷ half_cone 0 1 2 1 ∷ []) (left_at 1 0))
first_end_higher =
    by_one_failure (holds_half triangle (half_fan (half_cone 1 0 1 0 ∷ half_cone 3 4 2 1 ∷ half_cone 0 1 2 1 ∷ []) (left_at 1 0))) refl refl

second_end_higher : ¬ HoldsHalf triangle (half_fan (half_cone 1 0 1 0 ∷ half_cone 3 4 2 0 ∷ half_cone 0 1 2 0 ∷ []) (left_at 1 0))
second_end_higher =
    by_one_failure (holds_half triangle (half_fan (half_cone 1 0 1 0 ∷ half_cone 3 4 2 0 ∷ half_cone 0 1 2 0 ∷ []) (left_at 1 0))) refl refl

-- ---- fans over a quarter turn

abbrev quarter_fan : List QuarterCone → PlanePoint → QuarterFan
quarter_fan cones last = record { cones = cones; last = last }

-- a square that stands on a corner
abbrev diamond : List PlanePoint
diamond = at 0 1 ∷ at 1 0 ∷ at 2 1 ∷ at 1 2 ∷ []

quarter : HoldsQuarter diamond (quarter_fan (quarter_cone 1 0 2 0 3 1 ∷ quarter_cone 1 1 3 1 0 2 ∷ []) (at 0 1))
quarter = by_test (holds_quarter diamond (quarter_fan (quarter_cone 1 0 2 0 3 1 ∷ quarter_cone 1 1 3 1 0 2 ∷ []) (at 0 1))) refl

quarter_begun_late : ¬ HoldsQuarter diamond (quarter_fan (quarter_cone 1 1 3 1 0 2 ∷ []) (at 0 1))
quarter_begun_late = by_one_failure (holds_quarter diamond (quarter_fan (quarter_cone 1 1 3 1 0 2 ∷ []) (at 0 1))) refl refl

quarter_ended_early : ¬ HoldsQuarter diamond (quarter_fan (quarter_cone 1 0 2 0 3 1 ∷ []) (at 1 1))
quarter_ended_early = by_one_failure (holds_quarter diamond (quarter_fan (quarter_cone 1 0 2 0 3 1 ∷ []) (at 1 1))) refl refl

wrong_high : ¬ HoldsQuarter diamond (quarter_fan (quarter_cone 1 0 3 0 3 1 ∷ quarter_cone 1 1 3 1 0 2 ∷ []) (at 0 1))
wrong_high = by_one_failure (holds_quarter diamond (quarter_fan (quarter_cone 1 0 3 0 3 1 ∷ quarter_cone 1 1 3 1 0 2 ∷ []) (at 0 1))) refl refl

wrong_low : ¬ HoldsQuarter diamond (quarter_fan (quarter_cone 1 0 2 1 3 1 ∷ quarter_cone 1 1 3 1 0 2 ∷ []) (at 0 1))
wrong_low = by_one_failure (holds_quarter diamond (quarter_fan (quarter_cone 1 0 2 1 3 1 ∷ quarter_cone 1 1 3 1 0 2 ∷ []) (at 0 1))) refl refl

wrong_over : ¬ HoldsQuarter diamond (quarter_fan (quarter_cone 1 0 2 0 0 1 ∷ quarter_cone 1 1 3 1 0 2 ∷ []) (at 0 1))
wrong_over = by_one_failure (holds_quarter diamond (quarter_fan (quarter_cone 1 0 2 0 0 1 ∷ quarter_cone 1 1 3 1 0 2 ∷ []) (at 0 1))) refl refl

wrong_under : ¬ HoldsQuarter diamond (quarter_fan (quarter_cone 1 0 2 0 3 2 ∷ quarter_cone 1 1 3 1 0 2 ∷ []) (at 0 1))
wrong_under = by_one_failure (holds_quarter diamond (quarter_fan (quarter_cone 1 0 2 0 3 2 ∷ quarter_cone 1 1 3 1 0 2 ∷ []) (at 0 1))) refl refl

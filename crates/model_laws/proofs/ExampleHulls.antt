-- Corners of hulls, and lists that fail to be corners in one condition alone.
use Rattle.std.proofs.Common.{refl, List, [], ◌∷◌}
use Rattle.bounds_model.specs.Plane.{PlanePoint}
use Rattle.bounds_model.specs.Hull.{AreCornerCycle, AreEnds, IsOnlyPoint, AreCorners}
use Rattle.bounds_model.specs.CornerTest.{GoAround, LeadToGreatest, CornersPass}
use Rattle.model_laws.proofs.Decisions.{by_test, by_failed_test, by_one_failure}
use Rattle.model_laws.proofs.DecideKgon.{cycle, ends, only_point, are_corners, go_around, lead_to_greatest, corners_pass}
use Rattle.model_laws.proofs.Literals.{at}

abbrev square : List PlanePoint
square = at 0 0 ∷ at 2 0 ∷ at 2 2 ∷ at 0 2 ∷ []

-- the square, and two points on it and inside it
abbrev six : List PlanePoint
six = at 1 0 ∷ at 0 2 ∷ at 0 0 ∷ at 2 2 ∷ at 2 0 ∷ at 1 1 ∷ []

-- a triangle whose leftmost point is not its lowest
abbrev raised : List PlanePoint
raised = at 3 0 ∷ at 4 4 ∷ at 0 5 ∷ []

-- ---- three corners or more

of_six : AreCorners six square
of_six = by_test (are_corners six square) refl

from_leftmost : AreCorners raised (at 0 5 ∷ at 3 0 ∷ at 4 4 ∷ [])
from_leftmost = by_test (are_corners raised (at 0 5 ∷ at 3 0 ∷ at 4 4 ∷ [])) refl

none_at_all : ¬ AreCorners six []
none_at_all = by_failed_test (are_corners six []) refl

from_lowest : ¬ AreCornerCycle raised (at 3 0 ∷ at 4 4 ∷ at 0 5 ∷ [])
from_lowest = by_one_failure (cycle raised (at 3 0 ∷ at 4 4 ∷ at 0 5 ∷ [])) refl refl

-- a corner that is no point
not_listed : ¬ AreCornerCycle (at 0 0 ∷ at 1 0 ∷ at 0 1 ∷ []) (at 0 0 ∷ at 5 0 ∷ at 0 1 ∷ [])
not_listed = by_one_failure (cycle (at 0 0 ∷ at 1 0 ∷ at 0 1 ∷ []) (at 0 0 ∷ at 5 0 ∷ at 0 1 ∷ [])) refl refl

twice_around : ¬ AreCornerCycle square (at 0 0 ∷ at 2 0 ∷ at 2 2 ∷ at 0 2 ∷ at 0 0 ∷ at 2 0 ∷ at 2 2 ∷ at 0 2 ∷ [])
twice_around = by_one_failure (cycle square (at 0 0 ∷ at 2 0 ∷ at 2 2 ∷ at 0 2 ∷ at 0 0 ∷ at 2 0 ∷ at 2 2 ∷ at 0 2 ∷ [])) refl refl

point_on_edge : ¬ AreCornerCycle six (at 0 0 ∷ at 1 0 ∷ at 2 0 ∷ at 2 2 ∷ at 0 2 ∷ [])
point_on_edge = by_one_failure (cycle six (at 0 0 ∷ at 1 0 ∷ at 2 0 ∷ at 2 2 ∷ at 0 2 ∷ [])) refl refl

one_left_out : ¬ AreCornerCycle six (at 0 0 ∷ at 2 0 ∷ at 2 2 ∷ [])
one_left_out = by_one_failure (cycle six (at 0 0 ∷ at 2 0 ∷ at 2 2 ∷ [])) refl refl

clockwise : ¬ AreCornerCycle square (at 0 0 ∷ at 0 2 ∷ at 2 2 ∷ at 2 0 ∷ [])
clockwise = by_failed_test (cycle square (at 0 0 ∷ at 0 2 ∷ at 2 2 ∷ at 2 0 ∷ [])) refl

-- ---- two corners, and one

abbrev on_line : List PlanePoint
on_line = at 1 1 ∷ at 2 0 ∷ at 0 2 ∷ []

both_ends : AreEnds on_line (at 0 2) (at 2 0)
both_ends = by_test (ends on_line (at 0 2) (at 2 0)) refl

begun_inside : ¬ AreEnds on_line (at 1 1) (at 2 0)
begun_inside = by_one_failure (ends on_line (at 1 1) (at 2 0)) refl refl

ended_inside : ¬ AreEnds on_line (at 0 2) (at 1 1)
ended_inside = by_one_failure (ends on_line (at 0 2) (at 1 1)) refl refl

beside_line : ¬ AreEnds (at 0 2 ∷ at 1 0 ∷ at 2 0 ∷ []) (at 0 2) (at 2 0)
beside_line = by_one_failure (ends (at 0 2 ∷ at 1 0 ∷ at 2 0 ∷ []) (at 0 2) (at 2 0)) refl refl

one_point_twice : ¬ AreEnds (at 5 5 ∷ []) (at 5 5) (at 5 5)
one_point_twice = by_one_failure (ends (at 5 5 ∷ []) (at 5 5) (at 5 5)) refl refl

repeated : IsOnlyPoint (at 5 5 ∷ at 5 5 ∷ []) (at 5 5)
repeated = by_test (only_point (at 5 5 ∷ at 5 5 ∷ []) (at 5 5)) refl

another : ¬ IsOnlyPoint (at 5 5 ∷ at 5 6 ∷ []) (at 5 5)
another = by_one_failure (only_point (at 5 5 ∷ at 5 6 ∷ []) (at 5 5)) refl refl

-- where there are points the other condition tells the same
of_none : ¬ IsOnlyPoint [] (at 5 5)
of_none = by_one_failure (only_point [] (at 5 5)) refl refl

-- ---- what a checker asks of corners

square_passes : CornersPass six square
square_passes = by_test (corners_pass six square) refl

ends_pass : CornersPass on_line (at 0 2 ∷ at 2 0 ∷ [])
ends_pass = by_test (corners_pass on_line (at 0 2 ∷ at 2 0 ∷ [])) refl

point_passes : CornersPass (at 5 5 ∷ at 5 5 ∷ []) (at 5 5 ∷ [])
point_passes = by_test (corners_pass (at 5 5 ∷ at 5 5 ∷ []) (at 5 5 ∷ [])) refl

around_from_lowest : ¬ CornersPass raised (at 3 0 ∷ at 4 4 ∷ at 0 5 ∷ [])
around_from_lowest = by_one_failure (corners_pass raised (at 3 0 ∷ at 4 4 ∷ at 0 5 ∷ [])) refl refl

around_twice : ¬ CornersPass six (at 0 0 ∷ at 2 0 ∷ at 2 2 ∷ at 0 2 ∷ at 0 0 ∷ at 2 0 ∷ at 2 2 ∷ at 0 2 ∷ [])
around_twice = by_one_failure (corners_pass six (at 0 0 ∷ at 2 0 ∷ at 2 2 ∷ at 0 2 ∷ at 0 0 ∷ at 2 0 ∷ at 2 2 ∷ at 0 2 ∷ [])) refl refl

point_twice : ¬ CornersPass (at 5 5 ∷ []) (at 5 5 ∷ at 5 5 ∷ [])
point_twice = by_one_failure (corners_pass (at 5 5 ∷ []) (at 5 5 ∷ at 5 5 ∷ [])) refl refl

ends_from_inside : ¬ CornersPass on_line (at 1 1 ∷ at 2 0 ∷ [])
ends_from_inside = by_one_failure (corners_pass on_line (at 1 1 ∷ at 2 0 ∷ [])) refl refl

one_of_two : ¬ CornersPass (at 5 5 ∷ at 5 6 ∷ []) (at 5 5 ∷ [])
one_of_two = by_one_failure (corners_pass (at 5 5 ∷ at 5 6 ∷ []) (at 5 5 ∷ [])) refl refl

goes_around : GoAround six square
goes_around = by_test (go_around six square) refl

straight_on : ¬ GoAround six (at 0 0 ∷ at 1 0 ∷ at 2 0 ∷ at 2 2 ∷ at 0 2 ∷ [])
straight_on = by_one_failure (go_around six (at 0 0 ∷ at 1 0 ∷ at 2 0 ∷ at 2 2 ∷ at 0 2 ∷ [])) refl refl

leaves_one_out : ¬ GoAround six (at 0 0 ∷ at 2 0 ∷ at 2 2 ∷ [])
leaves_one_out = by_one_failure (go_around six (at 0 0 ∷ at 2 0 ∷ at 2 2 ∷ [])) refl refl

ends_inside : ¬ LeadToGreatest on_line (at 0 2) (at 1 1)
ends_inside = by_one_failure (lead_to_greatest on_line (at 0 2) (at 1 1)) refl refl

leaves_the_line : ¬ LeadToGreatest (at 0 2 ∷ at 1 0 ∷ at 2 0 ∷ []) (at 0 2) (at 2 0)
leaves_the_line = by_one_failure (lead_to_greatest (at 0 2 ∷ at 1 0 ∷ at 2 0 ∷ []) (at 0 2) (at 2 0)) refl refl

-- Centres that pass, and spoilt ones that do not.
use Rattle.std.proofs.Common.{refl, List, [], ◌∷◌}
use Rattle.bounds_model.specs.Plane.{PlanePoint}
use Rattle.bounds_model.specs.CentresAnswer.{Leaf, CentresAnswer}
use Rattle.bounds_model.specs.Asks.Ask.{ask_centres}
use Rattle.bounds_model.specs.Asks.Sets.{plane}
use Rattle.bounds_model.specs.Answers.{Passes}
use Rattle.bounds_model.specs.Answers.Answer.{centres}
use Rattle.model_laws.proofs.Decisions.{by_test, by_failed_test, by_one_failure}
use Rattle.model_laws.proofs.DecideAnswers.{passes}
use Rattle.model_laws.proofs.Literals.{at, over, fraction, leaf}

-- ---- two squares around four points

abbrev pub four_points : List PlanePoint
four_points = at 0 0 ∷ at 1 1 ∷ at 10 10 ∷ at 12 11 ∷ []

abbrev with_leaves : List Leaf → CentresAnswer
with_leaves leaves = record { size = fraction 1 1; squares = over 1 1 1 ∷ over 11 11 1 ∷ []; leaves = leaves }

abbrev pub two_squares : CentresAnswer
two_squares = with_leaves (leaf 2 3 ∷ leaf 0 3 ∷ leaf 0 3 ∷ leaf 0 2 ∷ [])

two_squares_pass : Passes (ask_centres 2) (plane four_points) (centres two_squares)
two_squares_pass = by_test (passes (ask_centres 2) (plane four_points) (centres two_squares)) refl

-- a leaf left out, and one with points that are near each other
too_few_leaves_fail : ¬ Passes (ask_centres 2) (plane four_points) (centres (with_leaves (leaf 2 3 ∷ leaf 0 3 ∷ leaf 0 3 ∷ [])))
too_few_leaves_fail =
    by_one_failure (passes (ask_centres 2) (plane four_points) (centres (with_leaves (leaf 2 3 ∷ leaf 0 3 ∷ leaf 0 3 ∷ [])))) refl refl

near_points_fail : ¬ Passes (ask_centres 2) (plane four_points) (centres (with_leaves (leaf 0 1 ∷ leaf 0 3 ∷ leaf 0 3 ∷ leaf 0 2 ∷ [])))
near_points_fail = by_failed_test (passes (ask_centres 2) (plane four_points) (centres (with_leaves (leaf 0 1 ∷ leaf 0 3 ∷ leaf 0 3 ∷ leaf 0 2 ∷ [])))) refl

-- larger squares, whose leaves would have to hold at side 2
abbrev larger : CentresAnswer
larger = record two_squares { size = fraction 3 2 }

larger_fail : ¬ Passes (ask_centres 2) (plane four_points) (centres larger)
larger_fail = by_one_failure (passes (ask_centres 2) (plane four_points) (centres larger)) refl refl

-- squares that leave a point out, and where three are asked for
abbrev elsewhere : CentresAnswer
elsewhere = record two_squares { squares = over 1 1 1 ∷ over 10 10 1 ∷ [] }

elsewhere_fail : ¬ Passes (ask_centres 2) (plane four_points) (centres elsewhere)
elsewhere_fail = by_one_failure (passes (ask_centres 2) (plane four_points) (centres elsewhere)) refl refl

of_three_fail : ¬ Passes (ask_centres 3) (plane four_points) (centres two_squares)
of_three_fail = by_failed_test (passes (ask_centres 3) (plane four_points) (centres two_squares)) refl

-- ---- a square for each of three points

abbrev three_points : List PlanePoint
three_points = at 0 0 ∷ at 5 5 ∷ at 9 0 ∷ []

abbrev points_themselves : List Leaf → CentresAnswer
points_themselves leaves = record { size = fraction 0 1; squares = over 0 0 1 ∷ over 5 5 1 ∷ over 9 0 1 ∷ []; leaves = leaves }

points_themselves_pass : Passes (ask_centres 3) (plane three_points) (centres (points_themselves []))
points_themselves_pass = by_test (passes (ask_centres 3) (plane three_points) (centres (points_themselves []))) refl

leaf_too_many_fails : ¬ Passes (ask_centres 3) (plane three_points) (centres (points_themselves (leaf 0 1 ∷ [])))
leaf_too_many_fails = by_one_failure (passes (ask_centres 3) (plane three_points) (centres (points_themselves (leaf 0 1 ∷ [])))) refl refl

-- ---- one square around two points

abbrev one_square : Leaf → CentresAnswer
one_square l = record { size = fraction 3 2; squares = over 3 3 2 ∷ []; leaves = l ∷ [] }

one_square_passes : Passes (ask_centres 1) (plane (at 0 0 ∷ at 3 1 ∷ [])) (centres (one_square (leaf 0 1)))
one_square_passes = by_test (passes (ask_centres 1) (plane (at 0 0 ∷ at 3 1 ∷ [])) (centres (one_square (leaf 0 1)))) refl

same_point_fails : ¬ Passes (ask_centres 1) (plane (at 0 0 ∷ at 3 1 ∷ [])) (centres (one_square (leaf 1 1)))
same_point_fails = by_one_failure (passes (ask_centres 1) (plane (at 0 0 ∷ at 3 1 ∷ [])) (centres (one_square (leaf 1 1)))) refl refl

-- Circles and spheres that pass, and spoilt ones that do not.
use Rattle.std.proofs.Common.{refl, ℕ, ◌^◌, List, [], ◌∷◌}
use Rattle.bounds_model.specs.Plane.{PlanePoint}
use Rattle.bounds_model.specs.Space.{SpacePoint}
use Rattle.bounds_model.specs.BallAnswer.{Weighted, CircleAnswer, SphereAnswer}
use Rattle.bounds_model.specs.Asks.Ask.{ask_circle, ask_sphere, ask_strip}
use Rattle.bounds_model.specs.Asks.Sets.{plane, space, bare}
use Rattle.bounds_model.specs.Answers.{Passes}
use Rattle.bounds_model.specs.Answers.Answer.{circle, sphere}
use Rattle.model_laws.proofs.Decisions.{by_test, by_failed_test, by_one_failure}
use Rattle.model_laws.proofs.DecideAnswers.{passes}
use Rattle.model_laws.proofs.Literals.{minus, at, in_space, over, space_over, fraction, support}

-- ---- a triangle with a right angle: the circle over its longest side

abbrev pub triangle : List PlanePoint
triangle = at 0 0 ∷ at 4 0 ∷ at 0 3 ∷ []

abbrev pub over_longest : CircleAnswer
over_longest = record { size = fraction 25 4; centre = over 4 3 2; supports = support 1 1 ∷ support 2 1 ∷ [] }

over_longest_passes : Passes ask_circle (plane triangle) (circle over_longest)
over_longest_passes = by_test (passes ask_circle (plane triangle) (circle over_longest)) refl

-- the same with these supports
abbrev with_supports : List Weighted → CircleAnswer
with_supports supports = record over_longest { supports = supports }

-- both weights may be greater, while their sum is at most 2 ^ 80
abbrev doubled : CircleAnswer
doubled = with_supports (support 1 2 ∷ support 2 2 ∷ [])

doubled_passes : Passes ask_circle (plane triangle) (circle doubled)
doubled_passes = by_test (passes ask_circle (plane triangle) (circle doubled)) refl

abbrev heavy : ℕ → CircleAnswer
heavy weight = with_supports (support 1 weight ∷ support 2 weight ∷ [])

heaviest_passes : Passes ask_circle (plane triangle) (circle (heavy (2 ^ 79)))
heaviest_passes = by_test (passes ask_circle (plane triangle) (circle (heavy (2 ^ 79)))) refl

too_heavy_fails : ¬ Passes ask_circle (plane triangle) (circle (heavy (2 ^ 80)))
too_heavy_fails = by_one_failure (passes ask_circle (plane triangle) (circle (heavy (2 ^ 80)))) refl refl

-- weights that differ
abbrev lopsided : CircleAnswer
lopsided = with_supports (support 1 2 ∷ support 2 1 ∷ [])

lopsided_fails : ¬ Passes ask_circle (plane triangle) (circle lopsided)
lopsided_fails = by_failed_test (passes ask_circle (plane triangle) (circle lopsided)) refl

-- a support without weight, once beside the others and once instead of one
abbrev weightless : CircleAnswer
weightless = with_supports (support 0 0 ∷ support 1 1 ∷ support 2 1 ∷ [])

weightless_fails : ¬ Passes ask_circle (plane triangle) (circle weightless)
weightless_fails = by_one_failure (passes ask_circle (plane triangle) (circle weightless)) refl refl

abbrev one_weightless : CircleAnswer
one_weightless = with_supports (support 1 0 ∷ support 2 1 ∷ [])

one_weightless_fails : ¬ Passes ask_circle (plane triangle) (circle one_weightless)
one_weightless_fails = by_failed_test (passes ask_circle (plane triangle) (circle one_weightless)) refl

-- a number that is no point's
abbrev beyond : CircleAnswer
beyond = with_supports (support 9 1 ∷ support 2 1 ∷ [])

beyond_fails : ¬ Passes ask_circle (plane triangle) (circle beyond)
beyond_fails = by_failed_test (passes ask_circle (plane triangle) (circle beyond)) refl

-- a size that is too large, as large as it can be written
abbrev vast : CircleAnswer
vast = record over_longest { size = fraction (2 ^ 126) 1 }

vast_fails : ¬ Passes ask_circle (plane triangle) (circle vast)
vast_fails = by_one_failure (passes ask_circle (plane triangle) (circle vast)) refl refl

-- the size, and the centre, not in lowest terms
abbrev unreduced_size : CircleAnswer
unreduced_size = record over_longest { size = fraction 50 8 }

unreduced_size_fails : ¬ Passes ask_circle (plane triangle) (circle unreduced_size)
unreduced_size_fails = by_one_failure (passes ask_circle (plane triangle) (circle unreduced_size)) refl refl

abbrev unreduced_centre : CircleAnswer
unreduced_centre = record over_longest { centre = over 8 6 4 }

unreduced_centre_fails : ¬ Passes ask_circle (plane triangle) (circle unreduced_centre)
unreduced_centre_fails = by_one_failure (passes ask_circle (plane triangle) (circle unreduced_centre)) refl refl

-- where something else was asked, or of no points
other_kind_fails : ¬ Passes ask_strip (plane triangle) (circle over_longest)
other_kind_fails = by_one_failure (passes ask_strip (plane triangle) (circle over_longest)) refl refl

no_points_fails : ¬ Passes ask_circle bare (circle over_longest)
no_points_fails = by_one_failure (passes ask_circle bare (circle over_longest)) refl refl

-- ---- a sharper triangle: all three corners hold the circle, and the one over the two farthest does not contain the third

abbrev sharper : List PlanePoint
sharper = at 0 0 ∷ at 4 0 ∷ at 2 3 ∷ []

abbrev around_three : CircleAnswer
around_three = record { size = fraction 169 36; centre = over 12 5 6; supports = support 0 13 ∷ support 1 13 ∷ support 2 10 ∷ [] }

around_three_passes : Passes ask_circle (plane sharper) (circle around_three)
around_three_passes = by_test (passes ask_circle (plane sharper) (circle around_three)) refl

abbrev over_farthest : CircleAnswer
over_farthest = record { size = fraction 4 1; centre = over 2 0 1; supports = support 0 1 ∷ support 1 1 ∷ [] }

over_farthest_fails : ¬ Passes ask_circle (plane sharper) (circle over_farthest)
over_farthest_fails = by_one_failure (passes ask_circle (plane sharper) (circle over_farthest)) refl refl

-- four points on a circle: two that face each other hold it, whichever they are
abbrev pub unit_square : List PlanePoint
unit_square = at 0 0 ∷ at 1 0 ∷ at 1 1 ∷ at 0 1 ∷ []

abbrev over_diagonal : ℕ → ℕ → CircleAnswer
over_diagonal a b = record { size = fraction 1 2; centre = over 1 1 2; supports = support a 1 ∷ support b 1 ∷ [] }

over_one_passes : Passes ask_circle (plane unit_square) (circle (over_diagonal 0 2))
over_one_passes = by_test (passes ask_circle (plane unit_square) (circle (over_diagonal 0 2))) refl

over_other_passes : Passes ask_circle (plane unit_square) (circle (over_diagonal 1 3))
over_other_passes = by_test (passes ask_circle (plane unit_square) (circle (over_diagonal 1 3))) refl

over_side_fails : ¬ Passes ask_circle (plane unit_square) (circle (over_diagonal 0 1))
over_side_fails = by_failed_test (passes ask_circle (plane unit_square) (circle (over_diagonal 0 1))) refl

-- two points as far apart as points can be
abbrev farthest : List PlanePoint
farthest = at 200000 200000 ∷ record { x = minus 200000; y = minus 200000 } ∷ []

abbrev around_farthest : CircleAnswer
around_farthest = record { size = fraction 80000000000 1; centre = over 0 0 1; supports = support 0 1 ∷ support 1 1 ∷ [] }

around_farthest_passes : Passes ask_circle (plane farthest) (circle around_farthest)
around_farthest_passes = by_test (passes ask_circle (plane farthest) (circle around_farthest)) refl

-- one point three times
abbrev thrice : CircleAnswer
thrice = record { size = fraction 0 1; centre = over 5 5 1; supports = support 0 1 ∷ [] }

thrice_passes : Passes ask_circle (plane (at 5 5 ∷ at 5 5 ∷ at 5 5 ∷ [])) (circle thrice)
thrice_passes = by_test (passes ask_circle (plane (at 5 5 ∷ at 5 5 ∷ at 5 5 ∷ [])) (circle thrice)) refl

-- ---- every second corner of a cube

abbrev pub tetrahedron : List SpacePoint
tetrahedron = in_space 0 0 0 ∷ in_space 1 1 0 ∷ in_space 1 0 1 ∷ in_space 0 1 1 ∷ []

abbrev pub around_four : ℕ → SphereAnswer
around_four weight = record { size = fraction 3 4; centre = space_over 1 1 1 2; supports = support 0 weight ∷ support 1 weight ∷ support 2 weight ∷ support 3 weight ∷ [] }

around_four_passes : Passes ask_sphere (space tetrahedron) (sphere (around_four 1))
around_four_passes = by_test (passes ask_sphere (space tetrahedron) (sphere (around_four 1))) refl

heaviest_four_passes : Passes ask_sphere (space tetrahedron) (sphere (around_four (2 ^ 90)))
heaviest_four_passes = by_test (passes ask_sphere (space tetrahedron) (sphere (around_four (2 ^ 90)))) refl

too_heavy_four_fails : ¬ Passes ask_sphere (space tetrahedron) (sphere (around_four (2 ^ 91)))
too_heavy_four_fails = by_one_failure (passes ask_sphere (space tetrahedron) (sphere (around_four (2 ^ 91)))) refl refl

-- the sphere around three of them
abbrev around_first_three : SphereAnswer
around_first_three = record { size = fraction 2 3; centre = space_over 2 1 1 3; supports = support 0 1 ∷ support 1 1 ∷ support 2 1 ∷ [] }

around_first_three_fails : ¬ Passes ask_sphere (space tetrahedron) (sphere around_first_three)
around_first_three_fails = by_one_failure (passes ask_sphere (space tetrahedron) (sphere around_first_three)) refl refl

-- which passes where the fourth is left out
around_first_three_passes : Passes ask_sphere (space (in_space 0 0 0 ∷ in_space 1 1 0 ∷ in_space 1 0 1 ∷ [])) (sphere around_first_three)
around_first_three_passes = by_test (passes ask_sphere (space (in_space 0 0 0 ∷ in_space 1 1 0 ∷ in_space 1 0 1 ∷ [])) (sphere around_first_three)) refl

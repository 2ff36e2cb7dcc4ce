-- Polygons that pass, and spoilt ones that do not; corners of hulls.
use Rattle.std.proofs.Common.{refl, ℕ, pos, List, [], ◌∷◌, map}
use Rattle.bounds_model.specs.Plane.{PlanePoint}
use Rattle.bounds_model.specs.Hull.{AreCorners}
use Rattle.bounds_model.specs.CornerTest.{CornersPass}
use Rattle.bounds_model.specs.KgonAnswer.{KgonAnswer}
use Rattle.bounds_model.specs.Asks.Ask.{ask_kgon}
use Rattle.bounds_model.specs.Asks.Sets.{plane}
use Rattle.bounds_model.specs.Answers.{Passes}
use Rattle.bounds_model.specs.Answers.Answer.{kgon}
use Rattle.model_laws.proofs.Decisions.{by_test, by_failed_test, by_one_failure}
use Rattle.model_laws.proofs.DecideKgon.{are_corners, corners_pass}
use Rattle.model_laws.proofs.DecideAnswers.{passes}
use Rattle.model_laws.proofs.Literals.{at, fraction}

-- ---- the greatest triangle with corners of a square

abbrev pub square : List PlanePoint
square = at 0 0 ∷ at 2 0 ∷ at 2 2 ∷ at 0 2 ∷ []

-- its corners, three of them, and these potentials
abbrev with_potentials : List ℕ → KgonAnswer
with_potentials potentials = record { size = fraction 2 1; corners = 0 ∷ 1 ∷ 2 ∷ 3 ∷ []; chosen = 0 ∷ 1 ∷ 2 ∷ []; layers = 1; potentials = map pos potentials }

abbrev pub half : KgonAnswer
half = with_potentials (0 ∷ 4 ∷ 4 ∷ 0 ∷ 4 ∷ 0 ∷ [])

half_passes : Passes (ask_kgon 3) (plane square) (kgon half)
half_passes = by_test (passes (ask_kgon 3) (plane square) (kgon half)) refl

-- a potential that is too small to grow, or larger than twice the size
too_small_fails : ¬ Passes (ask_kgon 3) (plane square) (kgon (with_potentials (0 ∷ 4 ∷ 3 ∷ 0 ∷ 4 ∷ 0 ∷ [])))
too_small_fails = by_one_failure (passes (ask_kgon 3) (plane square) (kgon (with_potentials (0 ∷ 4 ∷ 3 ∷ 0 ∷ 4 ∷ 0 ∷ [])))) refl refl

too_large_fails : ¬ Passes (ask_kgon 3) (plane square) (kgon (with_potentials (0 ∷ 4 ∷ 5 ∷ 0 ∷ 4 ∷ 0 ∷ [])))
too_large_fails = by_one_failure (passes (ask_kgon 3) (plane square) (kgon (with_potentials (0 ∷ 4 ∷ 5 ∷ 0 ∷ 4 ∷ 0 ∷ [])))) refl refl

-- the same where four corners may be chosen
half_of_four_fails : ¬ Passes (ask_kgon 4) (plane square) (kgon half)
half_of_four_fails = by_one_failure (passes (ask_kgon 4) (plane square) (kgon half)) refl refl

-- corners that do not begin with the least point, turn right, or leave one out
abbrev with_corners : List ℕ → KgonAnswer
with_corners corners = record half { corners = corners }

begun_late_fails : ¬ Passes (ask_kgon 3) (plane square) (kgon (with_corners (1 ∷ 2 ∷ 3 ∷ 0 ∷ [])))
begun_late_fails = by_one_failure (passes (ask_kgon 3) (plane square) (kgon (with_corners (1 ∷ 2 ∷ 3 ∷ 0 ∷ [])))) refl refl

clockwise_fails : ¬ Passes (ask_kgon 3) (plane square) (kgon (with_corners (0 ∷ 3 ∷ 2 ∷ 1 ∷ [])))
clockwise_fails = by_failed_test (passes (ask_kgon 3) (plane square) (kgon (with_corners (0 ∷ 3 ∷ 2 ∷ 1 ∷ [])))) refl

abbrev three_corners : KgonAnswer
three_corners = record half { corners = 0 ∷ 1 ∷ 2 ∷ []; potentials = map pos (0 ∷ 4 ∷ 0 ∷ []) }

three_corners_fails : ¬ Passes (ask_kgon 3) (plane square) (kgon three_corners)
three_corners_fails = by_one_failure (passes (ask_kgon 3) (plane square) (kgon three_corners)) refl refl

-- ---- all four corners, over two layers: the index of each potential in the list matters

abbrev with_layers : List ℕ → KgonAnswer
with_layers potentials = record { size = fraction 4 1; corners = 0 ∷ 1 ∷ 2 ∷ 3 ∷ []; chosen = 0 ∷ 1 ∷ 2 ∷ 3 ∷ []; layers = 2; potentials = map pos potentials }

abbrev whole : KgonAnswer
whole = with_layers (0 ∷ 4 ∷ 4 ∷ 0 ∷ 4 ∷ 8 ∷ 0 ∷ 4 ∷ 0 ∷ 4 ∷ 0 ∷ 0 ∷ [])

whole_passes : Passes (ask_kgon 5) (plane square) (kgon whole)
whole_passes = by_test (passes (ask_kgon 5) (plane square) (kgon whole)) refl

shifted_fails : ¬ Passes (ask_kgon 5) (plane square) (kgon (with_layers (0 ∷ 4 ∷ 4 ∷ 0 ∷ 8 ∷ 4 ∷ 0 ∷ 4 ∷ 0 ∷ 4 ∷ 0 ∷ 0 ∷ [])))
shifted_fails =
    by_one_failure (passes (ask_kgon 5) (plane square) (kgon (with_layers (0 ∷ 4 ∷ 4 ∷ 0 ∷ 8 ∷ 4 ∷ 0 ∷ 4 ∷ 0 ∷ 4 ∷ 0 ∷ 0 ∷ [])))) refl refl

layers_exchanged_fails : ¬ Passes (ask_kgon 5) (plane square) (kgon (with_layers (0 ∷ 4 ∷ 8 ∷ 0 ∷ 4 ∷ 4 ∷ 0 ∷ 4 ∷ 0 ∷ 4 ∷ 0 ∷ 0 ∷ [])))
layers_exchanged_fails =
    by_one_failure (passes (ask_kgon 5) (plane square) (kgon (with_layers (0 ∷ 4 ∷ 8 ∷ 0 ∷ 4 ∷ 4 ∷ 0 ∷ 4 ∷ 0 ∷ 4 ∷ 0 ∷ 0 ∷ [])))) refl refl

-- ---- points on a line, and one point

abbrev flat_kgon : List ℕ → KgonAnswer
flat_kgon corners = record { size = fraction 0 1; corners = corners; chosen = 0 ∷ []; layers = 0; potentials = [] }

line_passes : Passes (ask_kgon 3) (plane (at 1 1 ∷ at 0 0 ∷ at 2 2 ∷ [])) (kgon (flat_kgon (1 ∷ 2 ∷ [])))
line_passes = by_test (passes (ask_kgon 3) (plane (at 1 1 ∷ at 0 0 ∷ at 2 2 ∷ [])) (kgon (flat_kgon (1 ∷ 2 ∷ [])))) refl

short_line_fails : ¬ Passes (ask_kgon 3) (plane (at 1 1 ∷ at 0 0 ∷ at 2 2 ∷ [])) (kgon (flat_kgon (1 ∷ 0 ∷ [])))
short_line_fails = by_one_failure (passes (ask_kgon 3) (plane (at 1 1 ∷ at 0 0 ∷ at 2 2 ∷ [])) (kgon (flat_kgon (1 ∷ 0 ∷ [])))) refl refl

point_passes : Passes (ask_kgon 3) (plane (at 5 5 ∷ at 5 5 ∷ [])) (kgon (flat_kgon (1 ∷ [])))
point_passes = by_test (passes (ask_kgon 3) (plane (at 5 5 ∷ at 5 5 ∷ [])) (kgon (flat_kgon (1 ∷ [])))) refl

-- ---- corners of the hull

abbrev six : List PlanePoint
six = at 0 0 ∷ at 2 0 ∷ at 1 1 ∷ at 2 2 ∷ at 0 2 ∷ at 1 0 ∷ []

square_of_six : AreCorners six square
square_of_six = by_test (are_corners six square) refl

-- a point on an edge is no corner
point_on_edge : ¬ AreCorners six (at 0 0 ∷ at 1 0 ∷ at 2 0 ∷ at 2 2 ∷ at 0 2 ∷ [])
point_on_edge = by_one_failure (are_corners six (at 0 0 ∷ at 1 0 ∷ at 2 0 ∷ at 2 2 ∷ at 0 2 ∷ [])) refl refl

-- twice around the square: each corner turns left, and all points are to the left of each edge
twice_around : ¬ CornersPass six (at 0 0 ∷ at 2 0 ∷ at 2 2 ∷ at 0 2 ∷ at 0 0 ∷ at 2 0 ∷ at 2 2 ∷ at 0 2 ∷ [])
twice_around = by_one_failure (corners_pass six (at 0 0 ∷ at 2 0 ∷ at 2 2 ∷ at 0 2 ∷ at 0 0 ∷ at 2 0 ∷ at 2 2 ∷ at 0 2 ∷ [])) refl refl

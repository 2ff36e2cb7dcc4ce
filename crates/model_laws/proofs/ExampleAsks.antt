-- Questions that are valid, and points that suit them.
use Rattle.std.proofs.Common.{refl, ℕ, []}
use Rattle.bounds_model.specs.Asks.{IsValid, Suits}
use Rattle.bounds_model.specs.Asks.Ask.{ask_circle, ask_sphere, ask_rectangle, ask_parallelogram, ask_strip, ask_annulus, ask_empty, ask_kgon, ask_distance, ask_centres}
use Rattle.bounds_model.specs.Asks.Sets.{plane, space, two, bare}
use Rattle.model_laws.proofs.Decisions.{Decision, by_test, by_one_failure, both, most_ℕ}
use Rattle.model_laws.proofs.DecideFits.{is_frame}
use Rattle.model_laws.proofs.Literals.{box}

-- ---- valid questions

abbrev few_corners : (k : ℕ) → Decision (IsValid (ask_kgon k))
few_corners k = both (most_ℕ 3 k) (most_ℕ k 12)

abbrev few_centres : (count : ℕ) → Decision (IsValid (ask_centres count))
few_centres count = both (most_ℕ 1 count) (most_ℕ count 3)

triangles : IsValid (ask_kgon 3)
triangles = by_test (few_corners 3) refl

twelve_corners : IsValid (ask_kgon 12)
twelve_corners = by_test (few_corners 12) refl

two_corners : ¬ IsValid (ask_kgon 2)
two_corners = by_one_failure (few_corners 2) refl refl

thirteen_corners : ¬ IsValid (ask_kgon 13)
thirteen_corners = by_one_failure (few_corners 13) refl refl

one_centre : IsValid (ask_centres 1)
one_centre = by_test (few_centres 1) refl

three_centres : IsValid (ask_centres 3)
three_centres = by_test (few_centres 3) refl

no_centre : ¬ IsValid (ask_centres 0)
no_centre = by_one_failure (few_centres 0) refl refl

four_centres : ¬ IsValid (ask_centres 4)
four_centres = by_one_failure (few_centres 4) refl refl

frame : IsValid (ask_empty (box 0 0 4 4))
frame = by_test (is_frame (box 0 0 4 4)) refl

no_frame : ¬ IsValid (ask_empty (box 4 0 4 4))
no_frame = by_one_failure (is_frame (box 4 0 4 4)) refl refl

circles : IsValid ask_circle
circles = tt

-- ---- points that suit: of the plane, and for spheres of space, for distances of two sets, for empty rectangles also none

circle_of_plane : Suits ask_circle (plane [])
circle_of_plane = tt

circle_of_space : ¬ Suits ask_circle (space [])
circle_of_space h = h

circle_of_two : ¬ Suits ask_circle (two [] [])
circle_of_two h = h

circle_of_bare : ¬ Suits ask_circle bare
circle_of_bare h = h

sphere_of_space : Suits ask_sphere (space [])
sphere_of_space = tt

sphere_of_plane : ¬ Suits ask_sphere (plane [])
sphere_of_plane h = h

distance_of_two : Suits ask_distance (two [] [])
distance_of_two = tt

distance_of_space : ¬ Suits ask_distance (space [])
distance_of_space h = h

box_of_plane : Suits (ask_empty (box 0 0 4 4)) (plane [])
box_of_plane = tt

box_of_bare : Suits (ask_empty (box 0 0 4 4)) bare
box_of_bare = tt

box_of_space : ¬ Suits (ask_empty (box 0 0 4 4)) (space [])
box_of_space h = h

strip_of_plane : Suits ask_strip (plane [])
strip_of_plane = tt

rectangle_of_plane : Suits ask_rectangle (plane [])
rectangle_of_plane = tt

parallelogram_of_plane : Suits ask_parallelogram (plane [])
parallelogram_of_plane = tt

annulus_of_plane : Suits ask_annulus (plane [])
annulus_of_plane = tt

polygon_of_plane : Suits (ask_kgon 3) (plane [])
polygon_of_plane = tt

squares_of_plane : Suits (ask_centres 1) (plane [])
squares_of_plane = tt

-- Balls, circles and annuli that fit points, and some that fail in one condition alone.
use Rattle.std.proofs.Common.{◌≡◌, refl, pos, List, [], ◌∷◌}
use Rattle.bounds_model.specs.Plane.{PlanePoint, PlaneRatio}
use Rattle.bounds_model.specs.Space.{SpacePoint, SpaceRatio}
use Rattle.bounds_model.specs.Fractions.{Fraction}
use Rattle.bounds_model.specs.Ball.{Ball, FitsBall, FitsCircle, ball_size}
use Rattle.bounds_model.specs.Annulus.{Annulus, FitsAnnulus, annulus_size}
use Rattle.model_laws.proofs.Decisions.{by_test, by_one_failure}
use Rattle.model_laws.proofs.DecideFits.{fits_ball, fits_circle, fits_annulus}
use Rattle.model_laws.proofs.Literals.{minus, at, in_space, over, space_over, fraction, signed_fraction}

-- ---- balls

abbrev two_points : List SpacePoint
two_points = in_space 0 0 0 ∷ in_space 1 1 0 ∷ []

-- around this centre, with this squared radius
abbrev ball : SpaceRatio → Fraction → Ball
ball centre size = record { centre = centre; squared_radius = size }

over_both : FitsBall two_points (ball (space_over 1 1 0 2) (fraction 1 2))
over_both = by_test (fits_ball two_points (ball (space_over 1 1 0 2) (fraction 1 2))) refl

its_size : ball_size (ball (space_over 1 1 0 2) (fraction 1 2)) ≡ fraction 1 2
its_size = refl

-- a radius that is too small; denominators of 0, under which every point would be inside
too_small : ¬ FitsBall two_points (ball (space_over 1 1 0 2) (fraction 1 3))
too_small = by_one_failure (fits_ball two_points (ball (space_over 1 1 0 2) (fraction 1 3))) refl refl

nowhere : ¬ FitsBall two_points (ball (space_over 0 0 0 0) (fraction 1 2))
nowhere = by_one_failure (fits_ball two_points (ball (space_over 0 0 0 0) (fraction 1 2))) refl refl

endless : ¬ FitsBall two_points (ball (space_over 1 1 0 2) (fraction 1 0))
endless = by_one_failure (fits_ball two_points (ball (space_over 1 1 0 2) (fraction 1 0))) refl refl

-- no points are in each ball, but a squared radius is not below 0
around_nothing : FitsBall [] (ball (space_over 1 1 0 2) (fraction 0 1))
around_nothing = by_test (fits_ball [] (ball (space_over 1 1 0 2) (fraction 0 1))) refl

below_nothing : ¬ FitsBall [] (ball (space_over 1 1 0 2) (signed_fraction (minus 1) (pos 1)))
below_nothing = by_one_failure (fits_ball [] (ball (space_over 1 1 0 2) (signed_fraction (minus 1) (pos 1)))) refl refl

-- ---- circles: the centre is in the plane

abbrev in_plane : List PlanePoint
in_plane = at 0 0 ∷ at 1 1 ∷ []

circle : FitsCircle in_plane (ball (space_over 1 1 0 2) (fraction 1 2))
circle = by_test (fits_circle in_plane (ball (space_over 1 1 0 2) (fraction 1 2))) refl

raised : ¬ FitsCircle in_plane (ball (space_over 1 1 1 2) (fraction 3 4))
raised = by_one_failure (fits_circle in_plane (ball (space_over 1 1 1 2) (fraction 3 4))) refl refl

too_small_circle : ¬ FitsCircle in_plane (ball (space_over 1 1 0 2) (fraction 1 3))
too_small_circle = by_one_failure (fits_circle in_plane (ball (space_over 1 1 0 2) (fraction 1 3))) refl refl

-- ---- annuli

abbrev unit_square : List PlanePoint
unit_square = at 0 0 ∷ at 1 0 ∷ at 1 1 ∷ at 0 1 ∷ []

abbrev three_apart : List PlanePoint
three_apart = at 0 0 ∷ at 1 0 ∷ at 5 0 ∷ []

-- around this centre, with these squared radii
abbrev annulus_of_radii : PlaneRatio → Fraction → Fraction → Annulus
annulus_of_radii centre inner outer = record { centre = centre; inner = inner; outer = outer }

annulus_of_three : FitsAnnulus three_apart (annulus_of_radii (over 5 0 2) (fraction 9 4) (fraction 25 4))
annulus_of_three = by_test (fits_annulus three_apart (annulus_of_radii (over 5 0 2) (fraction 9 4) (fraction 25 4))) refl

size_of_annulus : annulus_size (annulus_of_radii (over 5 0 2) (fraction 9 4) (fraction 25 4)) ≡ fraction 64 16
size_of_annulus = refl

size_of_annulus_apart : annulus_size (annulus_of_radii (over 0 0 1) (fraction 1 2) (fraction 2 3)) ≡ fraction 1 6
size_of_annulus_apart = refl

inner_too_large : ¬ FitsAnnulus three_apart (annulus_of_radii (over 5 0 2) (fraction 10 4) (fraction 25 4))
inner_too_large = by_one_failure (fits_annulus three_apart (annulus_of_radii (over 5 0 2) (fraction 10 4) (fraction 25 4))) refl refl

outer_too_small : ¬ FitsAnnulus three_apart (annulus_of_radii (over 5 0 2) (fraction 9 4) (fraction 24 4))
outer_too_small = by_one_failure (fits_annulus three_apart (annulus_of_radii (over 5 0 2) (fraction 9 4) (fraction 24 4))) refl refl

-- an annulus without area; denominators of 0, and radii below 0
annulus_of_none : FitsAnnulus unit_square (annulus_of_radii (over 1 1 2) (fraction 1 2) (fraction 1 2))
annulus_of_none = by_test (fits_annulus unit_square (annulus_of_radii (over 1 1 2) (fraction 1 2) (fraction 1 2))) refl

annulus_nowhere : ¬ FitsAnnulus unit_square (annulus_of_radii (over 0 0 0) (fraction 1 2) (fraction 1 2))
annulus_nowhere = by_one_failure (fits_annulus unit_square (annulus_of_radii (over 0 0 0) (fraction 1 2) (fraction 1 2))) refl refl

inner_over_zero : ¬ FitsAnnulus unit_square (annulus_of_radii (over 1 1 2) (fraction 0 0) (fraction 1 2))
inner_over_zero = by_one_failure (fits_annulus unit_square (annulus_of_radii (over 1 1 2) (fraction 0 0) (fraction 1 2))) refl refl

inner_below_zero : ¬ FitsAnnulus unit_square (annulus_of_radii (over 1 1 2) (signed_fraction (minus 1) (pos 1)) (fraction 1 2))
inner_below_zero = by_one_failure (fits_annulus unit_square (annulus_of_radii (over 1 1 2) (signed_fraction (minus 1) (pos 1)) (fraction 1 2))) refl refl

outer_over_zero : ¬ FitsAnnulus unit_square (annulus_of_radii (over 1 1 2) (fraction 1 2) (fraction 1 0))
outer_over_zero = by_one_failure (fits_annulus unit_square (annulus_of_radii (over 1 1 2) (fraction 1 2) (fraction 1 0))) refl refl

-- where there are points they tell the same
outer_below_zero : ¬ FitsAnnulus [] (annulus_of_radii (over 1 1 2) (fraction 1 2) (signed_fraction (minus 1) (pos 1)))
outer_below_zero = by_one_failure (fits_annulus [] (annulus_of_radii (over 1 1 2) (fraction 1 2) (signed_fraction (minus 1) (pos 1)))) refl refl

-- Polygons, weights of two hulls and covers that fit, and some that fail in one condition alone.
use Rattle.std.proofs.Common.{◌≡◌, refl, ℤ, pos, List, [], ◌∷◌}
use Rattle.bounds_model.specs.Plane.{PlanePoint}
use Rattle.bounds_model.specs.Space.{SpacePoint}
use Rattle.bounds_model.specs.Fractions.{Fraction}
use Rattle.bounds_model.specs.Kgon.{FitsKgon, kgon_size}
use Rattle.bounds_model.specs.Distance.{Weights, FitsDistance, distance_size}
use Rattle.bounds_model.specs.Centres.{Cover, IsNear, FitsCentres}
use Rattle.model_laws.proofs.Decisions.{by_test, by_one_failure}
use Rattle.model_laws.proofs.DecideKgon.{fits_kgon}
use Rattle.model_laws.proofs.DecideCentres.{near, covers}
use Rattle.model_laws.proofs.DecideFits.{fits_distance}
use Rattle.model_laws.proofs.Literals.{minus, at, in_space, over, fraction, signed_fraction}

-- ---- positions of corners of a square

abbrev square : List PlanePoint
square = at 0 0 ∷ at 2 0 ∷ at 2 2 ∷ at 0 2 ∷ []

all_four : FitsKgon 4 square (0 ∷ 1 ∷ 2 ∷ 3 ∷ [])
all_four = by_test (fits_kgon 4 square (0 ∷ 1 ∷ 2 ∷ 3 ∷ [])) refl

first_and_last : FitsKgon 3 square (0 ∷ 3 ∷ [])
first_and_last = by_test (fits_kgon 3 square (0 ∷ 3 ∷ [])) refl

last_alone : FitsKgon 3 square (3 ∷ [])
last_alone = by_test (fits_kgon 3 square (3 ∷ [])) refl

areas : kgon_size square (0 ∷ 1 ∷ 2 ∷ 3 ∷ []) ≡ fraction 8 2
areas = refl

half_area : kgon_size square (0 ∷ 2 ∷ 3 ∷ []) ≡ fraction 4 2
half_area = refl

none_chosen : ¬ FitsKgon 3 square []
none_chosen = by_one_failure (fits_kgon 3 square []) refl refl

too_many : ¬ FitsKgon 3 square (0 ∷ 1 ∷ 2 ∷ 3 ∷ [])
too_many = by_one_failure (fits_kgon 3 square (0 ∷ 1 ∷ 2 ∷ 3 ∷ [])) refl refl

falling : ¬ FitsKgon 3 square (1 ∷ 0 ∷ [])
falling = by_one_failure (fits_kgon 3 square (1 ∷ 0 ∷ [])) refl refl

repeated : ¬ FitsKgon 3 square (1 ∷ 1 ∷ [])
repeated = by_one_failure (fits_kgon 3 square (1 ∷ 1 ∷ [])) refl refl

no_corner : ¬ FitsKgon 3 square (0 ∷ 4 ∷ [])
no_corner = by_one_failure (fits_kgon 3 square (0 ∷ 4 ∷ [])) refl refl

-- ---- weights of two sets of points of space

abbrev corner : List SpacePoint
corner = in_space 0 0 0 ∷ []

abbrev facing : List SpacePoint
facing = in_space 3 0 0 ∷ in_space 0 3 0 ∷ in_space 0 0 3 ∷ []

abbrev weights : List ℤ → List ℤ → Weights
weights first second = record { first = first; second = second }

to_middle : FitsDistance corner facing (weights (pos 3 ∷ []) (pos 1 ∷ pos 1 ∷ pos 1 ∷ []))
to_middle = by_test (fits_distance corner facing (weights (pos 3 ∷ []) (pos 1 ∷ pos 1 ∷ pos 1 ∷ []))) refl

-- a weight may be 0
to_one : FitsDistance corner facing (weights (pos 2 ∷ []) (pos 0 ∷ pos 2 ∷ pos 0 ∷ []))
to_one = by_test (fits_distance corner facing (weights (pos 2 ∷ []) (pos 0 ∷ pos 2 ∷ pos 0 ∷ []))) refl

distance_to_middle : distance_size corner facing (weights (pos 3 ∷ []) (pos 1 ∷ pos 1 ∷ pos 1 ∷ [])) ≡ fraction 27 9
distance_to_middle = refl

one_more_first : ¬ FitsDistance corner facing (weights (pos 3 ∷ pos 0 ∷ []) (pos 1 ∷ pos 1 ∷ pos 1 ∷ []))
one_more_first = by_one_failure (fits_distance corner facing (weights (pos 3 ∷ pos 0 ∷ []) (pos 1 ∷ pos 1 ∷ pos 1 ∷ []))) refl refl

one_more_second : ¬ FitsDistance corner facing (weights (pos 3 ∷ []) (pos 1 ∷ pos 1 ∷ pos 1 ∷ pos 0 ∷ []))
one_more_second = by_one_failure (fits_distance corner facing (weights (pos 3 ∷ []) (pos 1 ∷ pos 1 ∷ pos 1 ∷ pos 0 ∷ []))) refl refl

negative_second : ¬ FitsDistance corner facing (weights (pos 1 ∷ []) (pos 1 ∷ pos 1 ∷ minus 1 ∷ []))
negative_second = by_one_failure (fits_distance corner facing (weights (pos 1 ∷ []) (pos 1 ∷ pos 1 ∷ minus 1 ∷ []))) refl refl

other_sums : ¬ FitsDistance corner facing (weights (pos 2 ∷ []) (pos 1 ∷ pos 1 ∷ pos 1 ∷ []))
other_sums = by_one_failure (fits_distance corner facing (weights (pos 2 ∷ []) (pos 1 ∷ pos 1 ∷ pos 1 ∷ []))) refl refl

weightless : ¬ FitsDistance corner facing (weights (pos 0 ∷ []) (pos 0 ∷ pos 0 ∷ pos 0 ∷ []))
weightless = by_one_failure (fits_distance corner facing (weights (pos 0 ∷ []) (pos 0 ∷ pos 0 ∷ pos 0 ∷ []))) refl refl

negative_first : ¬ FitsDistance facing corner (weights (pos 1 ∷ pos 1 ∷ minus 1 ∷ []) (pos 1 ∷ []))
negative_first = by_one_failure (fits_distance facing corner (weights (pos 1 ∷ pos 1 ∷ minus 1 ∷ []) (pos 1 ∷ []))) refl refl

-- ---- squares of one size

at_corner : IsNear (fraction 1 2) (at 1 1) (over 1 1 2)
at_corner = by_test (near (fraction 1 2) (at 1 1) (over 1 1 2)) refl

far_in_x : ¬ IsNear (fraction 1 2) (at 2 0) (over 1 1 2)
far_in_x = by_one_failure (near (fraction 1 2) (at 2 0) (over 1 1 2)) refl refl

far_in_y : ¬ IsNear (fraction 1 2) (at 0 2) (over 1 1 2)
far_in_y = by_one_failure (near (fraction 1 2) (at 0 2) (over 1 1 2)) refl refl

abbrev two_groups : List PlanePoint
two_groups = at 0 0 ∷ at 1 1 ∷ at 10 10 ∷ []

abbrev around_both : Fraction → Cover
around_both radius = record { centres = over 1 1 2 ∷ over 20 20 2 ∷ []; radius = radius }

covered : FitsCentres 2 two_groups (around_both (fraction 1 2))
covered = by_test (covers 2 two_groups (around_both (fraction 1 2))) refl

too_small : ¬ FitsCentres 2 two_groups (around_both (fraction 1 3))
too_small = by_one_failure (covers 2 two_groups (around_both (fraction 1 3))) refl refl

one_too_few : ¬ FitsCentres 3 two_groups (around_both (fraction 1 2))
one_too_few = by_one_failure (covers 3 two_groups (around_both (fraction 1 2))) refl refl

one_nowhere : ¬ FitsCentres 3 two_groups (record { centres = over 1 1 2 ∷ over 20 20 2 ∷ over 0 0 0 ∷ []; radius = fraction 1 2 })
one_nowhere = by_one_failure (covers 3 two_groups (record { centres = over 1 1 2 ∷ over 20 20 2 ∷ over 0 0 0 ∷ []; radius = fraction 1 2 })) refl refl

endless : ¬ FitsCentres 2 two_groups (around_both (fraction 1 0))
endless = by_one_failure (covers 2 two_groups (around_both (fraction 1 0))) refl refl

-- where there are points they tell the same
below_nothing : ¬ FitsCentres 2 [] (around_both (signed_fraction (minus 1) (pos 1)))
below_nothing = by_one_failure (covers 2 [] (around_both (signed_fraction (minus 1) (pos 1)))) refl refl

-- Annuli that fail in one of the conditions of a checker alone.
use Rattle.std.proofs.Common.{refl, ℕ, ◌+◌, ◌*◌, ◌^◌, ℤ, pos, List, [], ◌∷◌}
use Rattle.bounds_model.specs.Plane.{PlanePoint, PlaneRatio}
use Rattle.bounds_model.specs.Fractions.{Fraction}
use Rattle.bounds_model.specs.AnnulusAnswer.{WeightedPair, AnnulusAnswer, PassesAnnulus}
use Rattle.model_laws.proofs.Decisions.{by_test, by_one_failure}
use Rattle.model_laws.proofs.DecideDistance.{annulus_passes}
use Rattle.model_laws.proofs.Literals.{minus, at, over, signed_over, fraction, pair}

abbrev annulus_with : Fraction → PlaneRatio → Fraction → Fraction → List WeightedPair → AnnulusAnswer
annulus_with size centre inner outer pairs = record { size = size; centre = centre; inner = inner; outer = outer; pairs = pairs }

-- ---- four points

abbrev four_points : List PlanePoint
four_points = at 0 0 ∷ at 2 0 ∷ at 0 2 ∷ at 2 3 ∷ []

abbrev with_pairs : List WeightedPair → AnnulusAnswer
with_pairs = annulus_with (fraction 6 5) (over 13 13 10) (fraction 109 50) (fraction 169 50)

abbrev thinnest : AnnulusAnswer
thinnest = with_pairs (pair 0 2 3 ∷ pair 3 1 2 ∷ [])

thinnest_passes : PassesAnnulus four_points thinnest
thinnest_passes = by_test (annulus_passes four_points thinnest) refl

unreduced_size : ¬ PassesAnnulus four_points (record thinnest { size = fraction 12 10 })
unreduced_size = by_one_failure (annulus_passes four_points (record thinnest { size = fraction 12 10 })) refl refl

unreduced_centre : ¬ PassesAnnulus four_points (record thinnest { centre = over 26 26 20 })
unreduced_centre = by_one_failure (annulus_passes four_points (record thinnest { centre = over 26 26 20 })) refl refl

unreduced_inner : ¬ PassesAnnulus four_points (record thinnest { inner = fraction 218 100 })
unreduced_inner = by_one_failure (annulus_passes four_points (record thinnest { inner = fraction 218 100 })) refl refl

unreduced_outer : ¬ PassesAnnulus four_points (record thinnest { outer = fraction 338 100 })
unreduced_outer = by_one_failure (annulus_passes four_points (record thinnest { outer = fraction 338 100 })) refl refl

other_inner : ¬ PassesAnnulus four_points (record thinnest { inner = fraction 2 1 })
other_inner = by_one_failure (annulus_passes four_points (record thinnest { inner = fraction 2 1 })) refl refl

other_outer : ¬ PassesAnnulus four_points (record thinnest { outer = fraction 3 1 })
other_outer = by_one_failure (annulus_passes four_points (record thinnest { outer = fraction 3 1 })) refl refl

-- three pairs at most, and one at least: without pairs every size would be the least
no_pairs : ¬ PassesAnnulus four_points (with_pairs [])
no_pairs = by_one_failure (annulus_passes four_points (with_pairs [])) refl refl

four_pairs : ¬ PassesAnnulus four_points (with_pairs (pair 0 2 3 ∷ pair 3 1 2 ∷ pair 0 2 3 ∷ pair 3 1 2 ∷ []))
four_pairs = by_one_failure (annulus_passes four_points (with_pairs (pair 0 2 3 ∷ pair 3 1 2 ∷ pair 0 2 3 ∷ pair 3 1 2 ∷ []))) refl refl

weightless : ¬ PassesAnnulus four_points (with_pairs (pair 0 2 3 ∷ pair 3 1 2 ∷ pair 0 0 0 ∷ []))
weightless = by_one_failure (annulus_passes four_points (with_pairs (pair 0 2 3 ∷ pair 3 1 2 ∷ pair 0 0 0 ∷ []))) refl refl

-- a number that is no point's, where the point would be the origin
first_beyond : ¬ PassesAnnulus four_points (with_pairs (pair 9 2 3 ∷ pair 3 1 2 ∷ []))
first_beyond = by_one_failure (annulus_passes four_points (with_pairs (pair 9 2 3 ∷ pair 3 1 2 ∷ []))) refl refl

-- ---- three points on a line

abbrev level : List PlanePoint
level = at 0 0 ∷ at 1 0 ∷ at 5 0 ∷ []

abbrev vertical : List PlanePoint
vertical = at 0 0 ∷ at 0 1 ∷ at 0 5 ∷ []

abbrev balanced : List WeightedPair
balanced = pair 0 1 4 ∷ pair 2 1 1 ∷ []

-- these show the same size, and do not balance
abbrev unbalanced : List WeightedPair
unbalanced = pair 0 1 1 ∷ pair 2 1 1 ∷ pair 1 0 5 ∷ []

of_three : PassesAnnulus level (annulus_with (fraction 4 1) (over 5 0 2) (fraction 9 4) (fraction 25 4) balanced)
of_three = by_test (annulus_passes level (annulus_with (fraction 4 1) (over 5 0 2) (fraction 9 4) (fraction 25 4) balanced)) refl

unbalanced_x : ¬ PassesAnnulus level (annulus_with (fraction 4 1) (over 5 0 2) (fraction 9 4) (fraction 25 4) unbalanced)
unbalanced_x = by_one_failure (annulus_passes level (annulus_with (fraction 4 1) (over 5 0 2) (fraction 9 4) (fraction 25 4) unbalanced)) refl refl

-- another centre, with the size that the pairs show, or with the size of its annulus
larger_than_size : ¬ PassesAnnulus level (annulus_with (fraction 4 1) (over 0 0 1) (fraction 0 1) (fraction 25 1) balanced)
larger_than_size = by_one_failure (annulus_passes level (annulus_with (fraction 4 1) (over 0 0 1) (fraction 0 1) (fraction 25 1) balanced)) refl refl

larger_than_pairs : ¬ PassesAnnulus level (annulus_with (fraction 25 1) (over 0 0 1) (fraction 0 1) (fraction 25 1) balanced)
larger_than_pairs = by_one_failure (annulus_passes level (annulus_with (fraction 25 1) (over 0 0 1) (fraction 0 1) (fraction 25 1) balanced)) refl refl

unbalanced_y : ¬ PassesAnnulus vertical (annulus_with (fraction 4 1) (over 0 5 2) (fraction 9 4) (fraction 25 4) unbalanced)
unbalanced_y = by_one_failure (annulus_passes vertical (annulus_with (fraction 4 1) (over 0 5 2) (fraction 9 4) (fraction 25 4) unbalanced)) refl refl

-- ---- one point, and annuli of which each has it on both circles

-- the centre (x/w, y/w) with this pair, where x or y is 0
abbrev around_origin : ℤ → ℤ → ℕ → Fraction → WeightedPair → AnnulusAnswer
around_origin x y w size p = annulus_with (fraction 0 1) (signed_over x y (pos w)) size size (p ∷ [])

abbrev wide : ℕ → AnnulusAnswer
wide w = around_origin (pos 1) (pos 0) w (fraction 1 (w * w)) (pair 0 0 1)

widest : PassesAnnulus (at 0 0 ∷ []) (wide (2 ^ 42))
widest = by_test (annulus_passes (at 0 0 ∷ []) (wide (2 ^ 42))) refl

too_wide : ¬ PassesAnnulus (at 0 0 ∷ []) (wide (2 ^ 42 + 1))
too_wide = by_one_failure (annulus_passes (at 0 0 ∷ []) (wide (2 ^ 42 + 1))) refl refl

far_x : PassesAnnulus (at 0 0 ∷ []) (around_origin (minus (2 ^ 58)) (pos 0) 1 (fraction (2 ^ 116) 1) (pair 0 0 1))
far_x = by_test (annulus_passes (at 0 0 ∷ []) (around_origin (minus (2 ^ 58)) (pos 0) 1 (fraction (2 ^ 116) 1) (pair 0 0 1))) refl

abbrev too_far_x : AnnulusAnswer
too_far_x = around_origin (minus (2 ^ 58 + 1)) (pos 0) 1 (fraction ((2 ^ 58 + 1) * (2 ^ 58 + 1)) 1) (pair 0 0 1)

too_far_x_fails : ¬ PassesAnnulus (at 0 0 ∷ []) too_far_x
too_far_x_fails = by_one_failure (annulus_passes (at 0 0 ∷ []) too_far_x) refl refl

far_y : PassesAnnulus (at 0 0 ∷ []) (around_origin (pos 0) (pos (2 ^ 58)) 1 (fraction (2 ^ 116) 1) (pair 0 0 1))
far_y = by_test (annulus_passes (at 0 0 ∷ []) (around_origin (pos 0) (pos (2 ^ 58)) 1 (fraction (2 ^ 116) 1) (pair 0 0 1))) refl

abbrev too_far_y : AnnulusAnswer
too_far_y = around_origin (pos 0) (pos (2 ^ 58 + 1)) 1 (fraction ((2 ^ 58 + 1) * (2 ^ 58 + 1)) 1) (pair 0 0 1)

too_far_y_fails : ¬ PassesAnnulus (at 0 0 ∷ []) too_far_y
too_far_y_fails = by_one_failure (annulus_passes (at 0 0 ∷ []) too_far_y) refl refl

heaviest : PassesAnnulus (at 0 0 ∷ []) (around_origin (pos 1) (pos 0) 1 (fraction 1 1) (pair 0 0 (2 ^ 42)))
heaviest = by_test (annulus_passes (at 0 0 ∷ []) (around_origin (pos 1) (pos 0) 1 (fraction 1 1) (pair 0 0 (2 ^ 42)))) refl

too_heavy : ¬ PassesAnnulus (at 0 0 ∷ []) (around_origin (pos 1) (pos 0) 1 (fraction 1 1) (pair 0 0 (2 ^ 42 + 1)))
too_heavy = by_one_failure (annulus_passes (at 0 0 ∷ []) (around_origin (pos 1) (pos 0) 1 (fraction 1 1) (pair 0 0 (2 ^ 42 + 1)))) refl refl

second_beyond : ¬ PassesAnnulus (at 0 0 ∷ []) (around_origin (pos 1) (pos 0) 1 (fraction 1 1) (pair 0 9 1))
second_beyond = by_one_failure (annulus_passes (at 0 0 ∷ []) (around_origin (pos 1) (pos 0) 1 (fraction 1 1) (pair 0 9 1))) refl refl

-- Shells that fail in one of the conditions of a checker alone.
use Rattle.std.proofs.Common.{refl, ◌+◌, ◌^◌, pos, List, [], ◌∷◌}
use Rattle.bounds_model.specs.Space.{SpacePoint, SpaceRatio}
use Rattle.bounds_model.specs.Fractions.{Fraction}
use Rattle.bounds_model.specs.AnnulusAnswer.{WeightedPair}
use Rattle.bounds_model.specs.ShellAnswer.{ShellAnswer, PassesShell}
use Rattle.model_laws.proofs.Decisions.{by_test, by_one_failure}
use Rattle.model_laws.proofs.DecideShell.{shell_passes}
use Rattle.model_laws.proofs.ExampleShells.{three_apart, on_line, four_flat, in_plane}
use Rattle.model_laws.proofs.Literals.{minus, in_space, space_over, signed_space_over, fraction, pair}

-- ---- four points in a plane

abbrev with_pairs : List WeightedPair → ShellAnswer
with_pairs pairs = record in_plane { pairs = pairs }

unreduced_size : ¬ PassesShell four_flat (record in_plane { size = fraction 12 10 })
unreduced_size = by_one_failure (shell_passes four_flat (record in_plane { size = fraction 12 10 })) refl refl

-- the same centre, not in lowest terms, with its levels
unreduced_centre : ¬ PassesShell four_flat (record in_plane { centre = space_over 26 26 0 20; low = minus 24 })
unreduced_centre = by_one_failure (shell_passes four_flat (record in_plane { centre = space_over 26 26 0 20; low = minus 24 })) refl refl

-- four pairs at most, and one at least: without pairs every size would be the least
no_pairs : ¬ PassesShell four_flat (with_pairs [])
no_pairs = by_one_failure (shell_passes four_flat (with_pairs [])) refl refl

abbrev thrice : List WeightedPair
thrice = pair 0 2 3 ∷ pair 3 1 2 ∷ pair 0 2 3 ∷ pair 3 1 2 ∷ pair 0 2 3 ∷ pair 3 1 2 ∷ []

six_pairs : ¬ PassesShell four_flat (with_pairs thrice)
six_pairs = by_one_failure (shell_passes four_flat (with_pairs thrice)) refl refl

weightless : ¬ PassesShell four_flat (with_pairs (pair 0 2 3 ∷ pair 3 1 2 ∷ pair 0 0 0 ∷ []))
weightless = by_one_failure (shell_passes four_flat (with_pairs (pair 0 2 3 ∷ pair 3 1 2 ∷ pair 0 0 0 ∷ []))) refl refl

-- a number that is no point's, where the point would be the origin
first_beyond : ¬ PassesShell four_flat (with_pairs (pair 9 2 3 ∷ pair 3 1 2 ∷ []))
first_beyond = by_one_failure (shell_passes four_flat (with_pairs (pair 9 2 3 ∷ pair 3 1 2 ∷ []))) refl refl

-- ---- three points on a line

-- the points, the answer's centre and its pairs along each axis
abbrev along_y : List SpacePoint
along_y = in_space 0 0 0 ∷ in_space 0 1 0 ∷ in_space 0 5 0 ∷ []

abbrev along_z : List SpacePoint
along_z = in_space 0 0 0 ∷ in_space 0 0 1 ∷ in_space 0 0 5 ∷ []

passes_along_y : PassesShell along_y (record on_line { centre = space_over 0 5 0 2 })
passes_along_y = by_test (shell_passes along_y (record on_line { centre = space_over 0 5 0 2 })) refl

passes_along_z : PassesShell along_z (record on_line { centre = space_over 0 0 5 2 })
passes_along_z = by_test (shell_passes along_z (record on_line { centre = space_over 0 0 5 2 })) refl

-- these show the same size, and do not balance
abbrev unbalanced : List WeightedPair
unbalanced = pair 0 1 1 ∷ pair 2 1 1 ∷ pair 1 0 5 ∷ []

unbalanced_x : ¬ PassesShell three_apart (record on_line { pairs = unbalanced })
unbalanced_x = by_one_failure (shell_passes three_apart (record on_line { pairs = unbalanced })) refl refl

unbalanced_y : ¬ PassesShell along_y (record on_line { centre = space_over 0 5 0 2; pairs = unbalanced })
unbalanced_y = by_one_failure (shell_passes along_y (record on_line { centre = space_over 0 5 0 2; pairs = unbalanced })) refl refl

unbalanced_z : ¬ PassesShell along_z (record on_line { centre = space_over 0 0 5 2; pairs = unbalanced })
unbalanced_z = by_one_failure (shell_passes along_z (record on_line { centre = space_over 0 0 5 2; pairs = unbalanced })) refl refl

-- a shell that does not hold all points, with pairs that show its size
abbrev narrower : ShellAnswer
narrower = record on_line { size = fraction 7 2; pairs = pair 0 1 28 ∷ pair 2 1 7 ∷ pair 0 0 5 ∷ [] }

nearest_not_inside : ¬ PassesShell three_apart (record narrower { low = minus 7 })
nearest_not_inside = by_one_failure (shell_passes three_apart (record narrower { low = minus 7 })) refl refl

farthest_not_inside : ¬ PassesShell three_apart (record narrower { high = minus 1 })
farthest_not_inside = by_one_failure (shell_passes three_apart (record narrower { high = minus 1 })) refl refl

-- another centre with its levels, and the size that the pairs show or the size of its shell
abbrev around_origin : Fraction → ShellAnswer
around_origin size = record on_line { size = size; centre = space_over 0 0 0 1; low = pos 0; high = pos 25 }

larger_than_size : ¬ PassesShell three_apart (around_origin (fraction 4 1))
larger_than_size = by_one_failure (shell_passes three_apart (around_origin (fraction 4 1))) refl refl

larger_than_pairs : ¬ PassesShell three_apart (around_origin (fraction 25 1))
larger_than_pairs = by_one_failure (shell_passes three_apart (around_origin (fraction 25 1))) refl refl

-- ---- one point at the origin, where each centre has the levels 0

-- around this centre, with this pair
abbrev around : SpaceRatio → WeightedPair → ShellAnswer
around centre p = record { size = fraction 0 1; centre = centre; low = pos 0; high = pos 0; pairs = p ∷ [] }

abbrev one_point : List SpacePoint
one_point = in_space 0 0 0 ∷ []

finest : PassesShell one_point (around (space_over 1 0 0 (2 ^ 50)) (pair 0 0 1))
finest = by_test (shell_passes one_point (around (space_over 1 0 0 (2 ^ 50)) (pair 0 0 1))) refl

too_fine : ¬ PassesShell one_point (around (space_over 1 0 0 (2 ^ 50 + 1)) (pair 0 0 1))
too_fine = by_one_failure (shell_passes one_point (around (space_over 1 0 0 (2 ^ 50 + 1)) (pair 0 0 1))) refl refl

far_x : PassesShell one_point (around (signed_space_over (minus (2 ^ 66)) (pos 0) (pos 0) (pos 1)) (pair 0 0 1))
far_x = by_test (shell_passes one_point (around (signed_space_over (minus (2 ^ 66)) (pos 0) (pos 0) (pos 1)) (pair 0 0 1))) refl

too_far_x : ¬ PassesShell one_point (around (signed_space_over (minus (2 ^ 66 + 1)) (pos 0) (pos 0) (pos 1)) (pair 0 0 1))
too_far_x = by_one_failure (shell_passes one_point (around (signed_space_over (minus (2 ^ 66 + 1)) (pos 0) (pos 0) (pos 1)) (pair 0 0 1))) refl refl

far_y : PassesShell one_point (around (space_over 0 (2 ^ 66) 0 1) (pair 0 0 1))
far_y = by_test (shell_passes one_point (around (space_over 0 (2 ^ 66) 0 1) (pair 0 0 1))) refl

too_far_y : ¬ PassesShell one_point (around (space_over 0 (2 ^ 66 + 1) 0 1) (pair 0 0 1))
too_far_y = by_one_failure (shell_passes one_point (around (space_over 0 (2 ^ 66 + 1) 0 1) (pair 0 0 1))) refl refl

far_z : PassesShell one_point (around (signed_space_over (pos 0) (pos 0) (minus (2 ^ 66)) (pos 1)) (pair 0 0 1))
far_z = by_test (shell_passes one_point (around (signed_space_over (pos 0) (pos 0) (minus (2 ^ 66)) (pos 1)) (pair 0 0 1))) refl

too_far_z : ¬ PassesShell one_point (around (signed_space_over (pos 0) (pos 0) (minus (2 ^ 66 + 1)) (pos 1)) (pair 0 0 1))
too_far_z = by_one_failure (shell_passes one_point (around (signed_space_over (pos 0) (pos 0) (minus (2 ^ 66 + 1)) (pos 1)) (pair 0 0 1))) refl refl

heaviest : PassesShell one_point (around (space_over 0 0 0 1) (pair 0 0 (2 ^ 50)))
heaviest = by_test (shell_passes one_point (around (space_over 0 0 0 1) (pair 0 0 (2 ^ 50)))) refl

too_heavy : ¬ PassesShell one_point (around (space_over 0 0 0 1) (pair 0 0 (2 ^ 50 + 1)))
too_heavy = by_one_failure (shell_passes one_point (around (space_over 0 0 0 1) (pair 0 0 (2 ^ 50 + 1)))) refl refl

second_beyond : ¬ PassesShell one_point (around (space_over 0 0 0 1) (pair 0 9 1))
second_beyond = by_one_failure (shell_passes one_point (around (space_over 0 0 0 1) (pair 0 9 1))) refl refl

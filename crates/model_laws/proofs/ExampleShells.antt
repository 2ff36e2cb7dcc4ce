-- Shells that pass and shells that fit points, and some that do not fit in one condition alone.
use Rattle.std.proofs.Common.{◌≡◌, refl, pos, List, [], ◌∷◌}
use Rattle.bounds_model.specs.Space.{SpacePoint, SpaceRatio}
use Rattle.bounds_model.specs.Fractions.{Fraction}
use Rattle.bounds_model.specs.Shell.{Shell, FitsShell, shell_size}
use Rattle.bounds_model.specs.ShellAnswer.{ShellAnswer, PassesShell, shell_of}
use Rattle.model_laws.proofs.Decisions.{by_test, by_one_failure}
use Rattle.model_laws.proofs.DecideShell.{fits_shell, shell_passes}
use Rattle.model_laws.proofs.Literals.{minus, in_space, space_over, fraction, signed_fraction, pair}

-- ---- answers

-- three points on a line
abbrev pub three_apart : List SpacePoint
three_apart = in_space 0 0 0 ∷ in_space 1 0 0 ∷ in_space 5 0 0 ∷ []

abbrev pub on_line : ShellAnswer
on_line = record { size = fraction 4 1; centre = space_over 5 0 0 2; low = minus 8; high = pos 0; pairs = pair 0 1 4 ∷ pair 2 1 1 ∷ [] }

on_line_passes : PassesShell three_apart on_line
on_line_passes = by_test (shell_passes three_apart on_line) refl

-- four points in a plane
abbrev pub four_flat : List SpacePoint
four_flat = in_space 0 0 0 ∷ in_space 2 0 0 ∷ in_space 0 2 0 ∷ in_space 2 3 0 ∷ []

abbrev pub in_plane : ShellAnswer
in_plane = record { size = fraction 6 5; centre = space_over 13 13 0 10; low = minus 12; high = pos 0; pairs = pair 0 2 3 ∷ pair 3 1 2 ∷ [] }

in_plane_passes : PassesShell four_flat in_plane
in_plane_passes = by_test (shell_passes four_flat in_plane) refl

-- four points on a sphere
abbrev pub on_axes : List SpacePoint
on_axes = in_space 0 0 0 ∷ in_space 2 0 0 ∷ in_space 0 2 0 ∷ in_space 0 0 2 ∷ []

abbrev pub on_sphere : ShellAnswer
on_sphere = record { size = fraction 0 1; centre = space_over 1 1 1 1; low = pos 0; high = pos 0; pairs = pair 0 0 1 ∷ [] }

on_sphere_passes : PassesShell on_axes on_sphere
on_sphere_passes = by_test (shell_passes on_axes on_sphere) refl

-- ---- shells

-- the shell of an answer
abbrev around_line : Shell
around_line = shell_of on_line

around_line_radii : around_line ≡ record { centre = space_over 5 0 0 2; inner = fraction 9 4; outer = fraction 25 4 }
around_line_radii = refl

around_line_size : shell_size around_line ≡ fraction 64 16
around_line_size = refl

around_line_fits : FitsShell three_apart around_line
around_line_fits = by_test (fits_shell three_apart around_line) refl

-- around this centre, with these squared radii
abbrev shell_of_radii : SpaceRatio → Fraction → Fraction → Shell
shell_of_radii centre inner outer = record { centre = centre; inner = inner; outer = outer }

size_apart : shell_size (shell_of_radii (space_over 0 0 0 1) (fraction 1 2) (fraction 2 3)) ≡ fraction 1 6
size_apart = refl

around_axes_fits : FitsShell on_axes (shell_of_radii (space_over 1 1 1 1) (fraction 3 1) (fraction 3 1))
around_axes_fits = by_test (fits_shell on_axes (shell_of_radii (space_over 1 1 1 1) (fraction 3 1) (fraction 3 1))) refl

inner_too_large : ¬ FitsShell three_apart (shell_of_radii (space_over 5 0 0 2) (fraction 10 4) (fraction 25 4))
inner_too_large = by_one_failure (fits_shell three_apart (shell_of_radii (space_over 5 0 0 2) (fraction 10 4) (fraction 25 4))) refl refl

outer_too_small : ¬ FitsShell three_apart (shell_of_radii (space_over 5 0 0 2) (fraction 9 4) (fraction 24 4))
outer_too_small = by_one_failure (fits_shell three_apart (shell_of_radii (space_over 5 0 0 2) (fraction 9 4) (fraction 24 4))) refl refl

-- all three coordinates count
high_point_outside : ¬ FitsShell (in_space 0 0 1 ∷ []) (shell_of_radii (space_over 0 0 0 1) (fraction 0 1) (fraction 1 2))
high_point_outside = by_one_failure (fits_shell (in_space 0 0 1 ∷ []) (shell_of_radii (space_over 0 0 0 1) (fraction 0 1) (fraction 1 2))) refl refl

-- denominators of 0, and radii below 0
nowhere : ¬ FitsShell [] (shell_of_radii (space_over 0 0 0 0) (fraction 1 2) (fraction 1 2))
nowhere = by_one_failure (fits_shell [] (shell_of_radii (space_over 0 0 0 0) (fraction 1 2) (fraction 1 2))) refl refl

inner_over_zero : ¬ FitsShell on_axes (shell_of_radii (space_over 1 1 1 1) (fraction 0 0) (fraction 3 1))
inner_over_zero = by_one_failure (fits_shell on_axes (shell_of_radii (space_over 1 1 1 1) (fraction 0 0) (fraction 3 1))) refl refl

inner_below_zero : ¬ FitsShell on_axes (shell_of_radii (space_over 1 1 1 1) (signed_fraction (minus 1) (pos 1)) (fraction 3 1))
inner_below_zero = by_one_failure (fits_shell on_axes (shell_of_radii (space_over 1 1 1 1) (signed_fraction (minus 1) (pos 1)) (fraction 3 1))) refl refl

outer_over_zero : ¬ FitsShell on_axes (shell_of_radii (space_over 1 1 1 1) (fraction 3 1) (fraction 1 0))
outer_over_zero = by_one_failure (fits_shell on_axes (shell_of_radii (space_over 1 1 1 1) (fraction 3 1) (fraction 1 0))) refl refl

-- where there are points they tell the same
outer_below_zero : ¬ FitsShell [] (shell_of_radii (space_over 1 1 1 1) (fraction 3 1) (signed_fraction (minus 1) (pos 1)))
outer_below_zero = by_one_failure (fits_shell [] (shell_of_radii (space_over 1 1 1 1) (fraction 3 1) (signed_fraction (minus 1) (pos 1)))) refl refl

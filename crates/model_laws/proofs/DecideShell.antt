-- Tests of the conditions on shells. Each decides the definition of the like name.
use Rattle.std.proofs.Common.{◌^◌, pos, ◌-ℤ◌, List, length}
use Rattle.integers.specs.Extremes.{greatest, least}
use Rattle.bounds_model.specs.Space.{SpacePoint, squared_length}
use Rattle.bounds_model.specs.Ranges.{number_limit}
use Rattle.bounds_model.specs.AnnulusAnswer.{pair_sum}
use Rattle.bounds_model.specs.Shell.{Shell, IsInShell, FitsShell}
use Rattle.bounds_model.specs.ShellAnswer.{ShellAnswer, ShellRanges, power, weighted_differences, PassesShell}
use Rattle.model_laws.proofs.Decisions.{Decision, like, both, all, less_ℕ, equal_ℤ, most_ℤ}
use Rattle.model_laws.proofs.DecideParts.{within, counted, not_negative, same_value, fraction_in_range, space_ratio_in_range}
use Rattle.model_laws.proofs.DecideDistance.{direction_in_range}

abbrev pub in_shell : (shell : Shell) (p : SpacePoint) → Decision (IsInShell shell p)
in_shell shell p =
    like (both (most_ℤ _ _) (most_ℤ _ _))
    (λ h. record { outside_inner = h.0; inside_outer = h.1 }) (λ h. (h.outside_inner, h.inside_outer))

abbrev pub fits_shell : (points : List SpacePoint) (shell : Shell) → Decision (FitsShell points shell)
fits_shell points shell =
    like
    (both (most_ℤ (pos 1) shell.centre.w)
    (both (not_negative shell.inner)
    (both (not_negative shell.outer)
    (all {P = IsInShell shell} (in_shell shell) points))))
    (λ h. record { denominator = h.0; inner = h.1.0; outer = h.1.1.0; inside = h.1.1.1 })
    (λ h. (h.denominator, (h.inner, (h.outer, h.inside))))

abbrev pub shell_ranges : (a : ShellAnswer) → Decision (ShellRanges a)
shell_ranges a =
    like
    (both (fraction_in_range a.size)
    (both (space_ratio_in_range a.centre)
    (both (within number_limit a.low)
    (both (within number_limit a.high)
    (both (counted 1 4 a.pairs)
    (all direction_in_range a.pairs))))))
    (λ h. record { size = h.0; centre = h.1.0; low = h.1.1.0; high = h.1.1.1.0; count = h.1.1.1.1.0; pairs = h.1.1.1.1.1 })
    (λ h. (h.size, (h.centre, (h.low, (h.high, (h.count, h.pairs))))))

abbrev pub shell_passes : (points : List SpacePoint) (a : ShellAnswer) → Decision (PassesShell points a)
shell_passes points a =
    like
    (both (shell_ranges a)
    (both (all (λ pair. both (less_ℕ pair.first (length points)) (less_ℕ pair.second (length points))) a.pairs)
    (both (most_ℤ a.centre.w (pos (2 ^ 50)))
    (both (within (2 ^ 66) a.centre.x)
    (both (within (2 ^ 66) a.centre.y)
    (both (within (2 ^ 66) a.centre.z)
    (both (all (λ pair. most_ℤ (pos 1) pair.weight) a.pairs)
    (both (most_ℤ (pair_sum a.pairs) (pos (2 ^ 50)))
    (both (equal_ℤ (weighted_differences points (λ p. p.x) a.pairs) (pos 0))
    (both (equal_ℤ (weighted_differences points (λ p. p.y) a.pairs) (pos 0))
    (both (equal_ℤ (weighted_differences points (λ p. p.z) a.pairs) (pos 0))
    (both (equal_ℤ a.low (least (power a.centre) points))
    (both (equal_ℤ a.high (greatest (power a.centre) points))
    (both (same_value a.size (record { n = a.high -ℤ a.low; d = a.centre.w }))
    (same_value a.size (record { n = weighted_differences points squared_length a.pairs; d = pair_sum a.pairs }))))))))))))))))
    (λ h. record {
      ranges = h.0;
      numbers = h.1.0;
      w_limit = h.1.1.0;
      x_limit = h.1.1.1.0;
      y_limit = h.1.1.1.1.0;
      z_limit = h.1.1.1.1.1.0;
      weights = h.1.1.1.1.1.1.0;
      weight_limit = h.1.1.1.1.1.1.1.0;
      balanced_x = h.1.1.1.1.1.1.1.1.0;
      balanced_y = h.1.1.1.1.1.1.1.1.1.0;
      balanced_z = h.1.1.1.1.1.1.1.1.1.1.0;
      low = h.1.1.1.1.1.1.1.1.1.1.1.0;
      high = h.1.1.1.1.1.1.1.1.1.1.1.1.0;
      size = h.1.1.1.1.1.1.1.1.1.1.1.1.1.0;
      least_size = h.1.1.1.1.1.1.1.1.1.1.1.1.1.1;
    })
    (λ h. (h.ranges, (h.numbers, (h.w_limit, (h.x_limit, (h.y_limit, (h.z_limit, (h.weights, (h.weight_limit, (h.balanced_x, (h.balanced_y, (h.balanced_z, (h.low, (h.high, (h.size, h.least_size)))))))))))))))

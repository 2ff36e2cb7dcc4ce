-- Ranges of the numbers of a shell: at their limits, and each one past.
use Rattle.std.proofs.Common.{refl, ℕ, ◌+◌, ◌^◌, ℤ, pos, List, [], ◌∷◌}
use Rattle.bounds_model.specs.AnnulusAnswer.{WeightedPair}
use Rattle.bounds_model.specs.ShellAnswer.{ShellAnswer, ShellRanges}
use Rattle.model_laws.proofs.Decisions.{by_test, by_one_failure}
use Rattle.model_laws.proofs.DecideShell.{shell_ranges}
use Rattle.model_laws.proofs.Literals.{minus, space_over, fraction, pair, signed_pair}

abbrev greatest : ℕ
greatest = 2 ^ 126

abbrev past : ℕ
past = 2 ^ 126 + 1

-- numbers at their limits, with these levels and pairs
abbrev shell_with : ℤ → ℤ → List WeightedPair → ShellAnswer
shell_with low high pairs = record { size = fraction 1 greatest; centre = space_over greatest 0 1 greatest; low = low; high = high; pairs = pairs }

abbrev one_pair : ShellAnswer
one_pair = shell_with (pos 0) (pos 0) (pair 0 0 1 ∷ [])

abbrev with_pairs : List WeightedPair → ShellAnswer
with_pairs = shell_with (pos 0) (pos 0)

in_ranges : ShellRanges (shell_with (minus greatest) (pos greatest) (pair 9999 9999 greatest ∷ []))
in_ranges = by_test (shell_ranges (shell_with (minus greatest) (pos greatest) (pair 9999 9999 greatest ∷ []))) refl

levels_of_other_signs : ShellRanges (shell_with (pos greatest) (minus greatest) (pair 0 0 0 ∷ []))
levels_of_other_signs = by_test (shell_ranges (shell_with (pos greatest) (minus greatest) (pair 0 0 0 ∷ []))) refl

low_past : ¬ ShellRanges (shell_with (pos past) (pos 0) (pair 0 0 1 ∷ []))
low_past = by_one_failure (shell_ranges (shell_with (pos past) (pos 0) (pair 0 0 1 ∷ []))) refl refl

low_past_below : ¬ ShellRanges (shell_with (minus past) (pos 0) (pair 0 0 1 ∷ []))
low_past_below = by_one_failure (shell_ranges (shell_with (minus past) (pos 0) (pair 0 0 1 ∷ []))) refl refl

high_past : ¬ ShellRanges (shell_with (pos 0) (pos past) (pair 0 0 1 ∷ []))
high_past = by_one_failure (shell_ranges (shell_with (pos 0) (pos past) (pair 0 0 1 ∷ []))) refl refl

high_past_below : ¬ ShellRanges (shell_with (pos 0) (minus past) (pair 0 0 1 ∷ []))
high_past_below = by_one_failure (shell_ranges (shell_with (pos 0) (minus past) (pair 0 0 1 ∷ []))) refl refl

first_past : ¬ ShellRanges (with_pairs (pair 10000 0 1 ∷ []))
first_past = by_one_failure (shell_ranges (with_pairs (pair 10000 0 1 ∷ []))) refl refl

second_past : ¬ ShellRanges (with_pairs (pair 0 10000 1 ∷ []))
second_past = by_one_failure (shell_ranges (with_pairs (pair 0 10000 1 ∷ []))) refl refl

weight_past : ¬ ShellRanges (with_pairs (pair 0 0 past ∷ []))
weight_past = by_one_failure (shell_ranges (with_pairs (pair 0 0 past ∷ []))) refl refl

negative_weight : ¬ ShellRanges (with_pairs (signed_pair 0 0 (minus 1) ∷ []))
negative_weight = by_one_failure (shell_ranges (with_pairs (signed_pair 0 0 (minus 1) ∷ []))) refl refl

size_past : ¬ ShellRanges (record one_pair { size = fraction past 1 })
size_past = by_one_failure (shell_ranges (record one_pair { size = fraction past 1 })) refl refl

centre_past : ¬ ShellRanges (record one_pair { centre = space_over past 0 0 1 })
centre_past = by_one_failure (shell_ranges (record one_pair { centre = space_over past 0 0 1 })) refl refl

no_pairs : ¬ ShellRanges (with_pairs [])
no_pairs = by_one_failure (shell_ranges (with_pairs [])) refl refl

five_pairs : ¬ ShellRanges (with_pairs (pair 0 0 1 ∷ pair 0 0 1 ∷ pair 0 0 1 ∷ pair 0 0 1 ∷ pair 0 0 1 ∷ []))
five_pairs = by_one_failure (shell_ranges (with_pairs (pair 0 0 1 ∷ pair 0 0 1 ∷ pair 0 0 1 ∷ pair 0 0 1 ∷ pair 0 0 1 ∷ []))) refl refl

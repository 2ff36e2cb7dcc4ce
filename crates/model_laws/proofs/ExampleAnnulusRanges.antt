-- Ranges of the numbers of an annulus: at their limits, and each one past.
use Rattle.std.proofs.Common.{refl, ℕ, ◌+◌, ◌^◌, List, [], ◌∷◌}
use Rattle.bounds_model.specs.AnnulusAnswer.{WeightedPair, AnnulusAnswer, AnnulusRanges}
use Rattle.model_laws.proofs.Decisions.{by_test, by_one_failure}
use Rattle.model_laws.proofs.DecideDistance.{annulus_ranges}
use Rattle.model_laws.proofs.Literals.{minus, over, fraction, pair, signed_pair}

abbrev with_pairs : List WeightedPair → AnnulusAnswer
with_pairs pairs = record { size = fraction 1 1; centre = over 0 0 1; inner = fraction 1 1; outer = fraction 2 1; pairs = pairs }

abbrev past : ℕ
past = 2 ^ 126 + 1

abbrev one_pair : AnnulusAnswer
one_pair = with_pairs (pair 0 0 1 ∷ [])

in_ranges : AnnulusRanges (with_pairs (pair 9999 9999 (2 ^ 126) ∷ []))
in_ranges = by_test (annulus_ranges (with_pairs (pair 9999 9999 (2 ^ 126) ∷ []))) refl

first_past : ¬ AnnulusRanges (with_pairs (pair 10000 0 1 ∷ []))
first_past = by_one_failure (annulus_ranges (with_pairs (pair 10000 0 1 ∷ []))) refl refl

second_past : ¬ AnnulusRanges (with_pairs (pair 0 10000 1 ∷ []))
second_past = by_one_failure (annulus_ranges (with_pairs (pair 0 10000 1 ∷ []))) refl refl

weight_past : ¬ AnnulusRanges (with_pairs (pair 0 0 (2 ^ 126 + 1) ∷ []))
weight_past = by_one_failure (annulus_ranges (with_pairs (pair 0 0 (2 ^ 126 + 1) ∷ []))) refl refl

negative_weight : ¬ AnnulusRanges (with_pairs (signed_pair 0 0 (minus 1) ∷ []))
negative_weight = by_one_failure (annulus_ranges (with_pairs (signed_pair 0 0 (minus 1) ∷ []))) refl refl

size_past : ¬ AnnulusRanges (record one_pair { size = fraction past 1 })
size_past = by_one_failure (annulus_ranges (record one_pair { size = fraction past 1 })) refl refl

centre_past : ¬ AnnulusRanges (record one_pair { centre = over past 0 1 })
centre_past = by_one_failure (annulus_ranges (record one_pair { centre = over past 0 1 })) refl refl

inner_past : ¬ AnnulusRanges (record one_pair { inner = fraction past 1 })
inner_past = by_one_failure (annulus_ranges (record one_pair { inner = fraction past 1 })) refl refl

outer_past : ¬ AnnulusRanges (record one_pair { outer = fraction past 1 })
outer_past = by_one_failure (annulus_ranges (record one_pair { outer = fraction past 1 })) refl refl

no_pairs : ¬ AnnulusRanges (with_pairs [])
no_pairs = by_one_failure (annulus_ranges (with_pairs [])) refl refl

four_pairs : ¬ AnnulusRanges (with_pairs (pair 0 0 1 ∷ pair 0 0 1 ∷ pair 0 0 1 ∷ pair 0 0 1 ∷ []))
four_pairs = by_one_failure (annulus_ranges (with_pairs (pair 0 0 1 ∷ pair 0 0 1 ∷ pair 0 0 1 ∷ pair 0 0 1 ∷ []))) refl refl

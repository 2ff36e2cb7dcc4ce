-- Ranges, fractions and ranges of numbers: at each limit, and one past it.
use Rattle.std.proofs.Common.{refl, ℕ, ◌+◌, ◌^◌, pos, [], ◌∷◌}
use Rattle.bounds_model.specs.Numbers.{IsWithin, HasCount}
use Rattle.bounds_model.specs.Fractions.{SameValue, HaveNoCommonFactor, IsNotNegative, IsLowest}
use Rattle.bounds_model.specs.Ranges.{IsNatural, IsDirection, IsSpan, IsFraction, IsPlaneRatio}
use Rattle.model_laws.proofs.Decisions.{by_test, by_one_failure}
use Rattle.model_laws.proofs.CommonFactors.{no_common_factor}
use Rattle.model_laws.proofs.DecideParts.{within, counted, natural, same_value, direction_in_range, span_in_range, not_negative, lowest, fraction_in_range, plane_ratio_in_range}
use Rattle.model_laws.proofs.Literals.{minus, at, over, fraction, span, signed_at, signed_over, signed_fraction}

-- ---- ranges and counts

within_low : IsWithin 3 (minus 3)
within_low = by_test (within 3 (minus 3)) refl

within_high : IsWithin 3 (pos 3)
within_high = by_test (within 3 (pos 3)) refl

below_low : ¬ IsWithin 3 (minus 4)
below_low = by_one_failure (within 3 (minus 4)) refl refl

above_high : ¬ IsWithin 3 (pos 4)
above_high = by_one_failure (within 3 (pos 4)) refl refl

one_of_two : HasCount 1 2 (at 0 0 ∷ [])
one_of_two = by_test (counted 1 2 (at 0 0 ∷ [])) refl

two_of_two : HasCount 1 2 (at 0 0 ∷ at 0 0 ∷ [])
two_of_two = by_test (counted 1 2 (at 0 0 ∷ at 0 0 ∷ [])) refl

no_element : ¬ HasCount {X = ℕ} 1 2 []
no_element = by_one_failure (counted {X = ℕ} 1 2 []) refl refl

three_of_two : ¬ HasCount 1 2 (at 0 0 ∷ at 0 0 ∷ at 0 0 ∷ [])
three_of_two = by_one_failure (counted 1 2 (at 0 0 ∷ at 0 0 ∷ at 0 0 ∷ [])) refl refl

-- ---- fractions

halves : SameValue (fraction 1 2) (fraction 2 4)
halves = by_test (same_value (fraction 1 2) (fraction 2 4)) refl

half_and_more : ¬ SameValue (fraction 1 2) (fraction 2 3)
half_and_more = by_one_failure (same_value (fraction 1 2) (fraction 2 3)) refl refl

-- each two have a common factor, all three have none
factors_of_two_each : HaveNoCommonFactor (pos 6 ∷ pos 10 ∷ pos 15 ∷ [])
factors_of_two_each = by_test (no_common_factor (pos 6 ∷ pos 10 ∷ pos 15 ∷ [])) refl

one_factor : ¬ HaveNoCommonFactor (pos 6 ∷ minus 10 ∷ [])
one_factor = by_one_failure (no_common_factor (pos 6 ∷ minus 10 ∷ [])) refl refl

zero : IsNotNegative (fraction 0 1)
zero = by_test (not_negative (fraction 0 1)) refl

negative : ¬ IsNotNegative (signed_fraction (minus 1) (pos 1))
negative = by_one_failure (not_negative (signed_fraction (minus 1) (pos 1))) refl refl

no_denominator : ¬ IsNotNegative (fraction 1 0)
no_denominator = by_one_failure (not_negative (fraction 1 0)) refl refl

three_quarters : IsLowest (fraction 3 4)
three_quarters = by_test (lowest (fraction 3 4)) refl

two_quarters : ¬ IsLowest (fraction 2 4)
two_quarters = by_one_failure (lowest (fraction 2 4)) refl refl

negative_lowest : ¬ IsLowest (signed_fraction (minus 1) (pos 2))
negative_lowest = by_one_failure (lowest (signed_fraction (minus 1) (pos 2))) refl refl

-- ---- ranges of numbers

-- the greatest number of an answer, and the first that is too great
abbrev largest : ℕ
largest = 2 ^ 126

abbrev past : ℕ
past = largest + 1

least_natural : IsNatural (pos 0)
least_natural = by_test (natural (pos 0)) refl

largest_natural : IsNatural (pos largest)
largest_natural = by_test (natural (pos largest)) refl

negative_natural : ¬ IsNatural (minus 1)
negative_natural = by_one_failure (natural (minus 1)) refl refl

past_natural : ¬ IsNatural (pos past)
past_natural = by_one_failure (natural (pos past)) refl refl

largest_direction : IsDirection (signed_at (pos largest) (minus largest))
largest_direction = by_test (direction_in_range (signed_at (pos largest) (minus largest))) refl

past_x : ¬ IsDirection (at past 0)
past_x = by_one_failure (direction_in_range (at past 0)) refl refl

past_y : ¬ IsDirection (signed_at (pos 0) (minus past))
past_y = by_one_failure (direction_in_range (signed_at (pos 0) (minus past))) refl refl

largest_span : IsSpan (span (minus largest) (pos largest))
largest_span = by_test (span_in_range (span (minus largest) (pos largest))) refl

past_low : ¬ IsSpan (span (minus past) (pos 0))
past_low = by_one_failure (span_in_range (span (minus past) (pos 0))) refl refl

past_high : ¬ IsSpan (span (pos 0) (pos past))
past_high = by_one_failure (span_in_range (span (pos 0) (pos past))) refl refl

largest_numerator : IsFraction (fraction largest 1)
largest_numerator = by_test (fraction_in_range (fraction largest 1)) refl

largest_denominator : IsFraction (fraction 1 largest)
largest_denominator = by_test (fraction_in_range (fraction 1 largest)) refl

past_numerator : ¬ IsFraction (fraction past 1)
past_numerator = by_one_failure (fraction_in_range (fraction past 1)) refl refl

past_denominator : ¬ IsFraction (fraction 1 past)
past_denominator = by_one_failure (fraction_in_range (fraction 1 past)) refl refl

reducible : ¬ IsFraction (fraction 2 4)
reducible = by_one_failure (fraction_in_range (fraction 2 4)) refl refl

largest_ratio : IsPlaneRatio (signed_over (pos largest) (minus largest) (pos 1))
largest_ratio = by_test (plane_ratio_in_range (signed_over (pos largest) (minus largest) (pos 1))) refl

past_ratio_x : ¬ IsPlaneRatio (over past 0 1)
past_ratio_x = by_one_failure (plane_ratio_in_range (over past 0 1)) refl refl

past_ratio_y : ¬ IsPlaneRatio (signed_over (pos 0) (minus past) (pos 1))
past_ratio_y = by_one_failure (plane_ratio_in_range (signed_over (pos 0) (minus past) (pos 1))) refl refl

past_ratio_w : ¬ IsPlaneRatio (over 1 0 past)
past_ratio_w = by_one_failure (plane_ratio_in_range (over 1 0 past)) refl refl

ratio_over_zero : ¬ IsPlaneRatio (over 1 0 0)
ratio_over_zero = by_one_failure (plane_ratio_in_range (over 1 0 0)) refl refl

reducible_ratio : ¬ IsPlaneRatio (over 2 4 2)
reducible_ratio = by_one_failure (plane_ratio_in_range (over 2 4 2)) refl refl

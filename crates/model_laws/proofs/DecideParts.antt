-- Tests of the parts that answers share. Each decides the definition of the like name.
use Rattle.std.proofs.Common.{◌≡◌, ℕ, ℤ, pos, List, [], ◌∷◌, length}
use Rattle.bounds_model.specs.Numbers.{IsWithin, HasCount}
use Rattle.bounds_model.specs.Plane.{PlanePoint, PlaneRatio}
use Rattle.bounds_model.specs.Space.{SpacePoint, SpaceRatio, SamePlace}
use Rattle.bounds_model.specs.Fractions.{Fraction, SameValue, IsNotNegative, IsLowest}
use Rattle.bounds_model.specs.Strip.{Span, IsInSpan}
use Rattle.bounds_model.specs.Ranges.{IsNatural, IsDirection, IsSpan, IsFraction, IsPlaneRatio, IsSpaceRatio}
use Rattle.model_laws.proofs.Decisions.{Decision, like, both, together, most_ℕ, equal_ℤ, most_ℤ}
use Rattle.model_laws.proofs.CommonFactors.{no_common_factor}

abbrev pub same_point : (a b : PlanePoint) → Decision (a ≡ b)
same_point a b =
    like (together (equal_ℤ a.x b.x) (equal_ℤ a.y b.y)) (λ h. λ i. record { x = h.0 i; y = h.1 i }) (λ e. ((λ i. (e i).x), (λ i. (e i).y)))

abbrev pub same_space_point : (a b : SpacePoint) → Decision (a ≡ b)
same_space_point a b =
    like (together (equal_ℤ a.x b.x) (together (equal_ℤ a.y b.y) (equal_ℤ a.z b.z))) (λ h. λ i. record { x = h.0 i; y = h.1.0 i; z = h.1.1 i })
    (λ e. ((λ i. (e i).x), ((λ i. (e i).y), (λ i. (e i).z))))

abbrev pub within : (limit : ℕ) (z : ℤ) → Decision (IsWithin limit z)
within limit z = like (both (most_ℤ _ z) (most_ℤ z (pos limit))) (λ h. record { low = h.0; high = h.1 }) (λ h. (h.low, h.high))

abbrev pub counted : {X : Type 0} (low high : ℕ) (xs : List X) → Decision (HasCount low high xs)
counted low high xs = like (both (most_ℕ low (length xs)) (most_ℕ (length xs) high)) (λ h. record { at_least = h.0; at_most = h.1 }) (λ h. (h.at_least, h.at_most))

abbrev pub natural : (z : ℤ) → Decision (IsNatural z)
natural z = like (both (most_ℤ (pos 0) z) (most_ℤ z _)) (λ h. record { low = h.0; high = h.1 }) (λ h. (h.low, h.high))

abbrev pub same_value : (a b : Fraction) → Decision (SameValue a b)
same_value a b = equal_ℤ _ _

abbrev pub same_place : (a b : SpaceRatio) → Decision (SamePlace a b)
same_place a b = like (both (equal_ℤ _ _) (both (equal_ℤ _ _) (equal_ℤ _ _))) (λ h. record { in_x = h.0; in_y = h.1.0; in_z = h.1.1 }) (λ h. (h.in_x, (h.in_y, h.in_z)))

abbrev pub in_span : (span : Span) (z : ℤ) → Decision (IsInSpan span z)
in_span span z = like (both (most_ℤ span.low z) (most_ℤ z span.high)) (λ h. record { above = h.0; below = h.1 }) (λ h. (h.above, h.below))

abbrev pub direction_in_range : (v : PlanePoint) → Decision (IsDirection v)
direction_in_range v = like (both (within _ v.x) (within _ v.y)) (λ h. record { x = h.0; y = h.1 }) (λ h. (h.x, h.y))

abbrev pub span_in_range : (span : Span) → Decision (IsSpan span)
span_in_range span = like (both (within _ span.low) (within _ span.high)) (λ h. record { low = h.0; high = h.1 }) (λ h. (h.low, h.high))

abbrev pub not_negative : (a : Fraction) → Decision (IsNotNegative a)
not_negative a = like (both (most_ℤ (pos 0) a.n) (most_ℤ (pos 1) a.d)) (λ h. record { numerator = h.0; denominator = h.1 }) (λ h. (h.numerator, h.denominator))

abbrev pub lowest : (a : Fraction) → Decision (IsLowest a)
lowest a = like (both (not_negative a) (no_common_factor (a.n ∷ a.d ∷ []))) (λ h. record { not_negative = h.0; lowest = h.1 }) (λ h. (h.not_negative, h.lowest))

abbrev pub fraction_in_range : (a : Fraction) → Decision (IsFraction a)
fraction_in_range a = like (both (within _ a.n) (both (within _ a.d) (lowest a))) (λ h. record { numerator = h.0; denominator = h.1.0; lowest = h.1.1 }) (λ h. (h.numerator, (h.denominator, h.lowest)))

abbrev pub plane_ratio_in_range : (c : PlaneRatio) → Decision (IsPlaneRatio c)
plane_ratio_in_range c = like (both (within _ c.x) (both (within _ c.y) (both (within _ c.w) (both (most_ℤ (pos 1) c.w) (no_common_factor (c.x ∷ c.y ∷ c.w ∷ [])))))) (λ h. record { x = h.0; y = h.1.0; w = h.1.1.0; denominator = h.1.1.1.0; lowest = h.1.1.1.1 }) (λ h. (h.x, (h.y, (h.w, (h.denominator, h.lowest)))))

abbrev pub space_ratio_in_range : (c : SpaceRatio) → Decision (IsSpaceRatio c)
space_ratio_in_range c = like (both (within _ c.x) (both (within _ c.y) (both (within _ c.z) (both (within _ c.w) (both (most_ℤ (pos 1) c.w) (no_common_factor (c.x ∷ c.y ∷ c.z ∷ c.w ∷ []))))))) (λ h. record { x = h.0; y = h.1.0; z = h.1.1.0; w = h.1.1.1.0; denominator = h.1.1.1.1.0; lowest = h.1.1.1.1.1 }) (λ h. (h.x, (h.y, (h.z, (h.w, (h.denominator, h.lowest))))))

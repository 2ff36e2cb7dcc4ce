-- Tests of the conditions on plain fans. Each decides the definition of the like name.
use Rattle.std.proofs.Common.{◌≡◌, ◌≢◌, ℕ, ◌+◌, ◌<◌, pos, ◌<ℤ◌, List, [], ◌∷◌, length, arith}
use Rattle.std.specs.Prelude.{◌⊎◌, Any, SomeIndex}
use Rattle.bounds_model.specs.Plane.{PlanePoint, origin, point_at, dot, cross}
use Rattle.bounds_model.specs.Fractions.{HaveNoCommonFactor}
use Rattle.bounds_model.specs.Fans.{east, north, west}
use Rattle.bounds_model.specs.PlainFans.{edge, IsNormal, IsNormalOrParallel, EachInner, IsPlainHalf, IsPlainQuarter}
use Rattle.model_laws.proofs.Decisions.{Decision, like, both, either, negated, implies, all, any, contains, each_below, some_below, less_ℕ, equal_ℤ, less_ℤ}
use Rattle.model_laws.proofs.DecideParts.{same_point}
use Rattle.model_laws.proofs.DecideFans.{turn_left}
use Rattle.model_laws.proofs.CommonFactors.{no_common_factor}

-- the inner directions are among all numbers below the length
pub inner_to : (ds : List PlanePoint) (P : PlanePoint → Type 0) → ((i : ℕ) → i < length ds → 0 < i → i + 1 < length ds → P (point_at ds i)) → EachInner ds P
inner_to ds P h i p l = h i (omega arith) p l

-- a test for each inner direction
abbrev pub each_inner : (ds : List PlanePoint) {P : PlanePoint → Type 0} → ((d : PlanePoint) → Decision (P d)) → Decision (EachInner ds P)
each_inner ds {P} each =
    like (each_below {P = λ i. 0 < i → i + 1 < length ds → P (point_at ds i)} (λ i. implies (less_ℕ 0 i) (implies (less_ℕ (i + 1) (length ds)) (each (point_at ds i)))) (length ds)) (inner_to ds P) (λ h i b p l. h i p l)

abbrev pub is_normal : (edge d : PlanePoint) → Decision (IsNormal edge d)
is_normal edge d = like (both (negated (same_point edge origin)) (equal_ℤ (dot edge d) (pos 0))) (λ h. record { long = h.0; right_angle = h.1 }) (λ h. (h.long, h.right_angle))

abbrev pub normal_or_parallel : (edge d : PlanePoint) → Decision (IsNormalOrParallel edge d)
normal_or_parallel edge d =
    like (both (negated (same_point edge origin)) (either (equal_ℤ (dot edge d) (pos 0)) (equal_ℤ (cross edge d) (pos 0)))) (λ h. record { long = h.0; normal_or_parallel = h.1 }) (λ h. (h.long, h.normal_or_parallel))

abbrev pub plain_half : (corners ds : List PlanePoint) → Decision (IsPlainHalf corners ds)
plain_half corners ds =
    like
    (both (turn_left east west ds)
    (both (all {P = λ d. HaveNoCommonFactor (d.x ∷ d.y ∷ [])} (λ d. no_common_factor (d.x ∷ d.y ∷ [])) ds)
    (both (each_inner ds {P = λ d. pos 0 <ℤ d.y} (λ d. less_ℤ (pos 0) d.y))
    (both (contains same_point ds north)
    (both (each_below {P = λ i. edge corners i ≢ origin → Any (IsNormal (edge corners i)) ds} (λ i. implies (negated (same_point (edge corners i) origin)) (any {P = IsNormal (edge corners i)} (is_normal (edge corners i)) ds)) (length corners))
    (each_inner ds {P = λ d. (d ≡ north) ⊎ SomeIndex corners (λ i. IsNormal (edge corners i) d)} (λ d. either (same_point d north) (some_below {P = λ i. IsNormal (edge corners i) d} (λ i. is_normal (edge corners i) d) (length corners)))))))))
    (λ h. record { once = h.0; lowest = h.1.0; in_range = h.1.1.0; up = h.1.1.1.0; edges = h.1.1.1.1.0; no_others = h.1.1.1.1.1 })
    (λ h. (h.once, (h.lowest, (h.in_range, (h.up, (h.edges, h.no_others))))))

abbrev pub plain_quarter : (corners ds : List PlanePoint) → Decision (IsPlainQuarter corners ds)
plain_quarter corners ds =
    like
    (both (turn_left east north ds)
    (both (all {P = λ d. HaveNoCommonFactor (d.x ∷ d.y ∷ [])} (λ d. no_common_factor (d.x ∷ d.y ∷ [])) ds)
    (both (each_inner ds {P = λ d. (pos 0 <ℤ d.x) × (pos 0 <ℤ d.y)} (λ d. both (less_ℤ (pos 0) d.x) (less_ℤ (pos 0) d.y)))
    (both (each_below {P = λ i. edge corners i ≢ origin → Any (IsNormalOrParallel (edge corners i)) ds} (λ i. implies (negated (same_point (edge corners i) origin)) (any {P = IsNormalOrParallel (edge corners i)} (normal_or_parallel (edge corners i)) ds)) (length corners))
    (each_inner ds {P = λ d. SomeIndex corners (λ i. IsNormalOrParallel (edge corners i) d)} (λ d. some_below {P = λ i. IsNormalOrParallel (edge corners i) d} (λ i. normal_or_parallel (edge corners i) d) (length corners)))))))
    (λ h. record { once = h.0; lowest = h.1.0; in_range = h.1.1.0; edges = h.1.1.1.0; no_others = h.1.1.1.1 })
    (λ h. (h.once, (h.lowest, (h.in_range, (h.edges, h.no_others)))))

-- How a field is judged whose numbers are within the limit.
use Rattle.std.proofs.Common.{◌≡◌, ◌∙◌, refl, sym, ap, ℕ, ◌≤◌, ◌^◌, ℤ, pos, ◌≤ℤ◌, nat_abs, Bool, true, false, Ok, Err, arith, FitsSigned, to_z, of_z}
use Rattle.std.specs.Prelude.{nat_le}
use Rattle.std.proofs.lemmas.Bool.{le-leb}
use Rattle.std.specs.Int.{w128}
use Rattle.std.proofs.lemmas.Int.{to_z-of_z, ints}
use Rattle.integers.proofs.Magnitudes.{magnitude_is}
use Rattle.bounds_model.specs.Fractions.{Fraction}
use Rattle.bounds_model.specs.Plane.{PlaneRatio}
use Rattle.bounds_model.specs.Space.{SpaceRatio}
use Rattle.bounds_model.specs.Ranges.{number_limit, IsFraction, IsPlaneRatio, IsSpaceRatio}
use Rattle.bounds_model.specs.AnswerText.Fields.{Field, fraction, plane_ratio, space_ratio, Value, is_small, is_in_range}
use Rattle.text_laws.proofs.AnswerTexts.RangeLaws.{IsFieldInRange, is_limited, field_in_range, field_passes, two_true}
use Rattle.answer_lines.specs.declared.judging.Flaw.TheVariants.{OutOfRange}
use Rattle.answer_lines.specs.Judging.{Judged, judged_by, judged_field}

-- both tests pass
by_tests : {A : Type 0} (small in_range : Bool) (v : A) → small ≡ true → in_range ≡ true → judged_by small in_range v ≡ Ok v
by_tests true true v s p = refl
by_tests true false v s p = absurd cc
by_tests false in_range v s p = absurd cc

-- the first test passes and the second does not
by_first_test : {A : Type 0} (small in_range : Bool) (v : A) → small ≡ true → (in_range ≡ true → ⊥) → judged_by small in_range v ≡ Err OutOfRange
by_first_test true true v s p = absurd (p refl)
by_first_test true false v s p = refl
by_first_test false in_range v s p = absurd cc

-- a field that keeps the range of its in_range
pub judged-kept : (field : Field) (v : Value field) → is_limited field ≡ true → IsFieldInRange field v → judged_field field v ≡ Ok v
judged-kept field v limited in_range =
    let passes = field_passes field v limited in_range in
    by_tests (is_small field v) (is_in_range field v) v passes.0 passes.1

-- a field whose numbers are within the limit, and that does not keep its range
pub judged-out : (field : Field) (v : Value field) → is_small field v ≡ true → (IsFieldInRange field v → ⊥) → judged_field field v ≡ Err OutOfRange
judged-out field v small none = by_first_test (is_small field v) (is_in_range field v) v small (λ in_range. none (field_in_range field v small in_range))

-- numbers whose machine words are the same
pub same_number : (a b : ℤ) → FitsSigned w128 a → FitsSigned w128 b → of_z w128 a ≡ of_z w128 b → a ≡ b
same_number a b p q e = sym (to_z-of_z w128 a p) ∙ (ap (to_z w128) e ∙ to_z-of_z w128 b q)

-- ---- fractions

-- the number is within the limit
small_number : (z : ℤ) → nat_abs z ≤ 2 ^ 126 → nat_le (nat_abs z) number_limit ≡ true
small_number z small = le-leb (nat_abs z) number_limit small

-- a fraction with these numbers
pub fraction-kept : (v : Fraction) (n d : ℤ) (a b : ℕ) → IsFraction v → pos a ≡ v.n → pos b ≡ v.d → a ≡ nat_abs n → b ≡ nat_abs d → pos 0 ≤ℤ n → pos 1 ≤ℤ d
    → ◌≡◌ {A = Judged Fraction} (Ok v) (judged_field fraction (record { n = n; d = d }))
fraction-kept v n d a b lowest p q e f n-low d-low =
    let n-is : v.n ≡ n = sym p ∙ (ap pos e ∙ magnitude_is n-low) in
    let d-is : v.d ≡ d = sym q ∙ (ap pos f ∙ magnitude_is {z = d} (omega (arith, ints))) in
    let same : v ≡ record { n = n; d = d } = λ i. record { n = n-is i; d = d-is i } in
    sym (judged-kept fraction v refl lowest) ∙ ap (judged_field fraction) same

-- numbers that no fraction in lowest terms has
pub fraction-out : (n d : ℤ) → nat_abs n ≤ 2 ^ 126 → nat_abs d ≤ 2 ^ 126 → (IsFraction (record { n = n; d = d }) → ⊥) → ◌≡◌ {A = Judged Fraction} (Err OutOfRange) (judged_field fraction (record { n = n; d = d }))
fraction-out n d n-small d-small none =
    sym (judged-out fraction (record { n = n; d = d }) (two_true _ _ (small_number n n-small) (two_true _ _ (small_number d d-small) refl)) none)

-- ---- points of the plane

-- numbers that no point in lowest terms has
pub plane_ratio-out : (x y w : ℤ) → nat_abs x ≤ 2 ^ 126 → nat_abs y ≤ 2 ^ 126 → nat_abs w ≤ 2 ^ 126 → (IsPlaneRatio (record { x = x; y = y; w = w }) → ⊥)
    → ◌≡◌ {A = Judged PlaneRatio} (Err OutOfRange) (judged_field plane_ratio (record { x = x; y = y; w = w }))
plane_ratio-out x y w x-small y-small w-small none =
    sym (judged-out plane_ratio (record { x = x; y = y; w = w }) (two_true _ _ (small_number x x-small) (two_true _ _ (small_number y y-small) (two_true _ _ (small_number w w-small) refl))) none)

-- ---- points of space

-- numbers that no point in lowest terms has
pub space_ratio-out : (x y z w : ℤ) → nat_abs x ≤ 2 ^ 126 → nat_abs y ≤ 2 ^ 126 → nat_abs z ≤ 2 ^ 126 → nat_abs w ≤ 2 ^ 126 → (IsSpaceRatio (record { x = x; y = y; z = z; w = w }) → ⊥)
    → ◌≡◌ {A = Judged SpaceRatio} (Err OutOfRange) (judged_field space_ratio (record { x = x; y = y; z = z; w = w }))
space_ratio-out x y z w x-small y-small z-small w-small none =
    sym (judged-out space_ratio (record { x = x; y = y; z = z; w = w })
    (two_true _ _ (small_number x x-small) (two_true _ _ (small_number y y-small) (two_true _ _ (small_number z z-small) (two_true _ _ (small_number w w-small) refl)))) none)

-- A fraction in lowest terms over a whole number, and times one.
use Prim.Native.Nat.{◌∣◌}
use Rattle.std.proofs.Common.{◌≡◌, refl, ◌%◌, sym, ◌∙◌, ap, subst, ℕ, zero, suc, ◌*◌, ◌/◌, ◌^◌, ◌<◌, ◌≤◌, pos, ◌≤ℤ◌, ◌<ℤ◌, arith, [], ◌∷◌}
use Rattle.std.specs.Int.{IsGcd}
use Rattle.std.proofs.lemmas.Int.{ints}
use Rattle.std.proofs.lemmas.Nat.Gcd.{IsGcd-swap}
use Rattle.std.proofs.Math.Nat.{mul-div_cancel', dvd-mul_left, dvd_trans, le-div_iff_mul-le, div-lt_iff_lt-mul}
use Rattle.integers.proofs.LowestTerms.{IsLowestTerms-div}
use Rattle.integers.proofs.Divisors.{euclid, IsGcd-gcd, IsGcd-one, IsGcd-div, dvd_of_dvd-mul, one_from_IsGcd, gcd_all_one, IsGcd-from_gcd_all}
use Rattle.bounds_model.specs.Fractions.{Fraction, SameValue, IsLowest, common_divisor, common_factor, lowest_form, over, multiple}
use Rattle.bounds_model.specs.Ranges.{IsFraction}
use Rattle.exact_fractions.proofs.LowestForms.{SameValue-div, no_common_factor, is_number, quotient_le}
use Rattle.exact_fractions.proofs.Quotients.{divisor_positive}
use Rattle.exact_fractions.proofs.UniqueForms.{fraction_unique, same_by}

-- ---- common factors

-- n without what it has in common with k has no factor in common with d times the rest of k
pub IsGcd-scaled : (n d k g : ℕ) → 0 < g → IsGcd n d 1 → IsGcd n k g → IsGcd (n / g) (d * (k / g)) 1
IsGcd-scaled n d k g p apart common = IsGcd-one (n / g) (d * (k / g)) only
  where
    only : (m : ℕ) → m ∣ n / g → m ∣ d * (k / g) → m ≡ 1
    only m left right =
        let whole : m ∣ n = dvd_trans m left (subst (λ v. n / g ∣ v) (mul-div_cancel' g common.0) (dvd-mul_left (n / g) g)) in
        let none : IsGcd m d 1 = IsGcd-one m d (λ j l r. one_from_IsGcd n d apart j (dvd_trans j l whole) r) in
        one_from_IsGcd (n / g) (k / g) (IsGcd-div n k g common p) m left (dvd_of_dvd-mul m d (k / g) none right)

-- the numbers of a fraction in lowest terms
pub IsGcd-of_lowest : (n d : ℕ) → IsLowest (record { n = pos n; d = pos d }) → IsGcd n d 1
IsGcd-of_lowest n d h = IsGcd-from_gcd_all (pos n) (pos d) (gcd_all_one (pos n ∷ pos d ∷ []) h.lowest)

-- and back
pub IsLowest-of_gcd : (n d : ℕ) → 0 < d → IsGcd n d 1 → IsLowest (record { n = pos n; d = pos d })
IsLowest-of_gcd n d p h = record {
  not_negative = record { numerator = omega (arith, ints); denominator = omega (arith, ints) };
  lowest = no_common_factor n d h;
}

-- its denominator is above 0
pub positive_denominator : (n d : ℕ) → IsLowest (record { n = pos n; d = pos d }) → 0 < d
positive_denominator n d h = let least : pos 1 ≤ℤ pos d = h.not_negative.denominator in omega (arith, ints)

-- with small numbers it is one of an answer
pub IsFraction-of_lowest : (n d : ℕ) → n ≤ 2 ^ 126 → d ≤ 2 ^ 126 → IsLowest (record { n = pos n; d = pos d }) → IsFraction (record { n = pos n; d = pos d })
IsFraction-of_lowest n d hn hd lowest = record { numerator = is_number n hn; denominator = is_number d hd; lowest = lowest }

-- ---- the lowest form

-- the divisor of the definition is that of the laws
same_divisor : (steps a b : ℕ) → common_divisor steps a b ≡ euclid steps a b
same_divisor zero a b = refl
same_divisor (suc steps) a zero = refl
same_divisor (suc steps) a (suc b) = same_divisor steps (suc b) (a % suc b)

-- the factor that two numbers have in common
IsGcd-common_factor : (n d : ℕ) → IsGcd n d (common_factor (pos n ∷ pos d ∷ []))
IsGcd-common_factor n d =
    let last : common_factor (pos d ∷ []) ≡ d = refl in
    subst (IsGcd n d) (sym (same_divisor (suc d) n d)) (IsGcd-gcd n d)

-- the lowest form is in lowest terms
pub IsLowest-lowest_form : (n d : ℕ) → 0 < d → IsLowest (lowest_form (record { n = pos n; d = pos d }))
IsLowest-lowest_form n d p =
    let g = common_factor (pos n ∷ pos d ∷ []) in
    let lowest = IsLowestTerms-div n d g p (IsGcd-common_factor n d) in
    IsLowest-of_gcd (n / g) (d / g) lowest.denominator lowest.common_factor

-- and has the value, as no other
pub lowest_form_is : (a : Fraction) (n d : ℕ) → 0 < d → IsLowest a → SameValue a (record { n = pos n; d = pos d }) → a ≡ lowest_form (record { n = pos n; d = pos d })
lowest_form_is a n d p lowest same =
    let v : Fraction = record { n = pos n; d = pos d } in
    let form = lowest_form v in
    let value : SameValue form v = SameValue-div n d (common_factor (pos n ∷ pos d ∷ [])) (IsGcd-common_factor n d) in
    let equal = same_by a.n a.d form.n form.d v.n v.d (omega (arith, ints)) same value in
    fraction_unique a form lowest (IsLowest-lowest_form n d p) equal

-- ---- the parts of k

positive_part : (g b k : ℕ) → g * b ≡ k → 0 < k → 0 < b
positive_part g zero k e p = absurd (omega arith)
positive_part g (suc b) k e p = omega arith

-- what is left of k
pub positive_rest : (k g : ℕ) → g ∣ k → 0 < k → 0 < k / g
positive_rest k g h p = positive_part g (k / g) k (mul-div_cancel' g h) p

positive_product : (d b : ℕ) → 0 < d → 0 < b → 0 < d * b
positive_product zero b p q = absurd (omega arith)
positive_product (suc d) zero p q = absurd (omega arith)
positive_product (suc d) (suc b) p q = omega arith

-- ---- over a number

-- the fraction over k, where g is what its numerator has in common with k
abbrev pub quotient_of : ℕ → ℕ → ℕ → ℕ → Fraction
quotient_of n d k g = record { n = pos (n / g); d = pos (d * (k / g)) }

-- it has the value
pub SameValue-over : (n d k g : ℕ) → IsGcd n k g → SameValue (quotient_of n d k g) (over k (record { n = pos n; d = pos d }))
SameValue-over n d k g h = ap (λ v. pos v) (sides (n / g) (k / g) (mul-div_cancel' g h.0) (mul-div_cancel' g h.1))
  where
    regroup : (a b : ℕ) → a * (d * (g * b)) ≡ g * a * (d * b)
    regroup a b = omega arith

    sides : (a b : ℕ) → g * a ≡ n → g * b ≡ k → a * (d * k) ≡ n * (d * b)
    sides a b e f = ap (λ k. a * (d * k)) (sym f) ∙ regroup a b ∙ ap (λ n. n * (d * b)) e

-- it is in lowest terms
pub IsLowest-over : (n d k g : ℕ) → 0 < k → IsLowest (record { n = pos n; d = pos d }) → IsGcd n k g → IsLowest (quotient_of n d k g)
IsLowest-over n d k g p lowest h =
    let some : 0 < k / g = positive_rest k g h.1 p in
    let above : 0 < d * (k / g) = positive_product d (k / g) (positive_denominator n d lowest) some in
    IsLowest-of_gcd (n / g) (d * (k / g)) above (IsGcd-scaled n d k g (divisor_positive g k h.1 p) (IsGcd-of_lowest n d lowest) h)

-- so it is the lowest form
pub over_is : (n d k g : ℕ) → 0 < k → IsLowest (record { n = pos n; d = pos d }) → IsGcd n k g → quotient_of n d k g ≡ lowest_form (over k (record { n = pos n; d = pos d }))
over_is n d k g p lowest h =
    let some : 0 < d * k = positive_product d k (positive_denominator n d lowest) p in
    lowest_form_is (quotient_of n d k g) n (d * k) some (IsLowest-over n d k g p lowest h) (SameValue-over n d k g h)

-- whose denominator is within the limit
pub over_within : (n d k g : ℕ) → 0 < k → IsLowest (record { n = pos n; d = pos d }) → IsGcd n k g → (lowest_form (over k (record { n = pos n; d = pos d }))).d ≤ℤ pos (2 ^ 126) → d * (k / g) ≤ 2 ^ 126
over_within n d k g p lowest h limit =
    let most : pos (d * (k / g)) ≤ℤ pos (2 ^ 126) = subst (λ f. f.d ≤ℤ pos (2 ^ 126)) (sym (over_is n d k g p lowest h)) limit in
    omega (arith, ints)

-- and it is a fraction of an answer
pub IsFraction-over : (n d k g : ℕ) → 0 < k → IsFraction (record { n = pos n; d = pos d }) → IsGcd n k g → d * (k / g) ≤ 2 ^ 126 → IsFraction (quotient_of n d k g)
IsFraction-over n d k g p whole h within =
    let least : pos n ≤ℤ pos (2 ^ 126) = whole.numerator.high in
    IsFraction-of_lowest (n / g) (d * (k / g)) (quotient_le n g (omega (arith, ints))) within (IsLowest-over n d k g p whole.lowest h)

-- ---- times a number

-- the fraction times k, where g is what its denominator has in common with k
abbrev pub product_of : ℕ → ℕ → ℕ → ℕ → Fraction
product_of n d k g = record { n = pos (n * (k / g)); d = pos (d / g) }

-- it has the value
pub SameValue-times : (n d k g : ℕ) → IsGcd d k g → SameValue (product_of n d k g) (multiple k (record { n = pos n; d = pos d }))
SameValue-times n d k g h = ap (λ v. pos v) (sides (d / g) (k / g) (mul-div_cancel' g h.0) (mul-div_cancel' g h.1))
  where
    regroup : (a b : ℕ) → n * b * (g * a) ≡ g * b * n * a
    regroup a b = omega arith

    sides : (a b : ℕ) → g * a ≡ d → g * b ≡ k → n * b * d ≡ k * n * a
    sides a b e f = ap (λ d. n * b * d) (sym e) ∙ regroup a b ∙ ap (λ k. k * n * a) f

-- it is in lowest terms
pub IsLowest-times : (n d k g : ℕ) → 0 < k → IsLowest (record { n = pos n; d = pos d }) → IsGcd d k g → IsLowest (product_of n d k g)
IsLowest-times n d k g p lowest h =
    let some : 0 < d / g = positive_rest d g h.0 (positive_denominator n d lowest) in
    let turned : IsGcd d n 1 = IsGcd-swap n d 1 (IsGcd-of_lowest n d lowest) in
    let apart : IsGcd (d / g) (n * (k / g)) 1 = IsGcd-scaled d n k g (divisor_positive g k h.1 p) turned h in
    IsLowest-of_gcd (n * (k / g)) (d / g) some (IsGcd-swap (d / g) (n * (k / g)) 1 apart)

-- the limit over the factor bounds the numerator
pub product_within : (n b : ℕ) → 0 < b → n ≤ 2 ^ 126 / b → n * b ≤ 2 ^ 126
product_within n b p h = (le-div_iff_mul-le {k = b} {x = n} {y = 2 ^ 126} p).0 h

-- and past it the numerator is too
pub product_past : (n b : ℕ) → 0 < b → 2 ^ 126 / b < n → 2 ^ 126 < n * b
product_past n b p h = (div-lt_iff_lt-mul {k = b} {x = 2 ^ 126} {y = n} p).0 h

-- a fraction of an answer where its numerator is within the limit
pub IsFraction-times : (n d k g : ℕ) → 0 < k → n * (k / g) ≤ 2 ^ 126 → IsFraction (record { n = pos n; d = pos d }) → IsGcd d k g → IsFraction (product_of n d k g)
IsFraction-times n d k g p within whole h =
    let most : pos d ≤ℤ pos (2 ^ 126) = whole.denominator.high in
    IsFraction-of_lowest (n * (k / g)) (d / g) within (quotient_le d g (omega (arith, ints))) (IsLowest-times n d k g p whole.lowest h)

-- so it is the lowest form
pub times_is : (n d k g : ℕ) → 0 < k → IsLowest (record { n = pos n; d = pos d }) → IsGcd d k g → product_of n d k g ≡ lowest_form (multiple k (record { n = pos n; d = pos d }))
times_is n d k g p lowest h = lowest_form_is (product_of n d k g) (k * n) d (positive_denominator n d lowest) (IsLowest-times n d k g p lowest h) (SameValue-times n d k g h)

-- whose numerator is past the limit where code finds it so
pub times_past : (n d k g : ℕ) → 0 < k → IsLowest (record { n = pos n; d = pos d }) → IsGcd d k g → 2 ^ 126 < n * (k / g) → pos (2 ^ 126) <ℤ (lowest_form (multiple k (record { n = pos n; d = pos d }))).n
times_past n d k g p lowest h past = subst (λ f. pos (2 ^ 126) <ℤ f.n) (times_is n d k g p lowest h) (omega (arith, ints))

-- and nowhere else
pub times_within : (n d k g : ℕ) → 0 < k → IsLowest (record { n = pos n; d = pos d }) → IsGcd d k g → n * (k / g) ≤ 2 ^ 126 → ¬ (pos (2 ^ 126) <ℤ (lowest_form (multiple k (record { n = pos n; d = pos d }))).n)
times_within n d k g p lowest h within far =
    let past : pos (2 ^ 126) <ℤ pos (n * (k / g)) = subst (λ f. pos (2 ^ 126) <ℤ f.n) (sym (times_is n d k g p lowest h)) far in
    omega (arith, ints)

-- A size in units of a file and in whole units: each is the lowest form of the other, times or over how many units make a whole one.
use Rattle.std.proofs.Common.{◌≡◌, refl, sym, ◌∙◌, ap, subst, ℕ, zero, suc, ◌*◌, ◌^◌, ◌<◌, ◌≤◌, pos, nat_abs, ◌≤ℤ◌, arith}
use Rattle.std.proofs.Math.Nat.{one-le-pow}
use Rattle.std.proofs.lemmas.Int.{ints}
use Rattle.integers.proofs.Magnitudes.{magnitude_is}
use Rattle.integers.proofs.Divisors.{gcd, IsGcd-gcd}
use Rattle.bounds_model.specs.Fractions.{Fraction, SameValue, IsLowest, lowest_form, over, multiple}
use Rattle.bounds_model.specs.Ranges.{IsFraction}
use Rattle.exact_fractions.proofs.ScaledForms.{SameValue-over, IsLowest-over, over_is, SameValue-times, IsLowest-times, times_is, IsFraction-times, positive_denominator, lowest_form_is}

-- ---- over natural numbers

-- n over d
abbrev ratio : ℕ → ℕ → Fraction
ratio n d = record { n = pos n; d = pos d }

-- what has the value of a fraction over u gives it back times u
times_back : (n d a b u : ℕ) → 0 < b → IsLowest (ratio n d) → SameValue (ratio a b) (over u (ratio n d)) → ratio n d ≡ lowest_form (multiple u (ratio a b))
times_back n d a b u some lowest same =
    let regroup : a * (d * u) ≡ u * a * d = omega arith in
    lowest_form_is (ratio n d) (u * a) b some lowest (sym same ∙ ap (λ (k : ℕ). pos k) regroup)

-- what has the value of a fraction times u gives it back over u
over_back : (n d a b u : ℕ) → 0 < b * u → IsLowest (ratio n d) → SameValue (ratio a b) (multiple u (ratio n d)) → ratio n d ≡ lowest_form (over u (ratio a b))
over_back n d a b u some lowest same =
    let left : n * (b * u) ≡ u * n * b = omega arith in
    lowest_form_is (ratio n d) a (b * u) some lowest (ap (λ (k : ℕ). pos k) left ∙ sym same)

positive_product : (a b : ℕ) → 0 < a → 0 < b → 0 < a * b
positive_product zero b p q = absurd (omega arith)
positive_product (suc a) zero p q = absurd (omega arith)
positive_product (suc a) (suc b) p q = omega arith

-- over u and times u again
ratio_over_times : (n d u : ℕ) → 0 < u → IsLowest (ratio n d) → lowest_form (multiple u (lowest_form (over u (ratio n d)))) ≡ ratio n d
ratio_over_times n d u some lowest =
    let g = gcd n u in
    let common = IsGcd-gcd n u in
    let form = over_is n d u g some lowest common in
    let above = positive_denominator _ _ (IsLowest-over n d u g some lowest common) in
    ap (λ (f : Fraction). lowest_form (multiple u f)) (sym form) ∙ sym (times_back n d _ _ u above lowest (SameValue-over n d u g common))

-- times u and over u again
ratio_times_over : (n d u : ℕ) → 0 < u → IsLowest (ratio n d) → lowest_form (over u (lowest_form (multiple u (ratio n d)))) ≡ ratio n d
ratio_times_over n d u some lowest =
    let g = gcd d u in
    let common = IsGcd-gcd d u in
    let form = times_is n d u g some lowest common in
    let above = positive_denominator _ _ (IsLowest-times n d u g some lowest common) in
    ap (λ (f : Fraction). lowest_form (over u f)) (sym form) ∙ sym (over_back n d _ _ u (positive_product _ u above some) lowest (SameValue-times n d u g common))

-- times u it keeps its range where its numerator does
ratio_times_range : (n d u : ℕ) → 0 < u → IsFraction (ratio n d) → nat_abs (lowest_form (multiple u (ratio n d))).n ≤ 2 ^ 126 → IsFraction (lowest_form (multiple u (ratio n d)))
ratio_times_range n d u some range small =
    let g = gcd d u in
    let common = IsGcd-gcd d u in
    let form = times_is n d u g some range.lowest common in
    let within = subst (λ (f : Fraction). nat_abs f.n ≤ 2 ^ 126) (sym form) small in
    subst IsFraction form (IsFraction-times n d u g some within range common)

-- over 1 it is itself
ratio_over_one : (n d u : ℕ) → u ≡ 1 → IsLowest (ratio n d) → lowest_form (over u (ratio n d)) ≡ ratio n d
ratio_over_one n d u one lowest =
    let above = positive_denominator n d lowest in
    let same : n * (d * u) ≡ n * d = ap (λ (k : ℕ). n * (d * k)) one ∙ ap (λ (k : ℕ). n * k) {x = d * 1} {y = d} (omega arith) in
    let some : 0 < d * u = subst (λ (k : ℕ). 0 < d * k) (sym one) (omega (arith, above)) in
    sym (lowest_form_is (ratio n d) n (d * u) some lowest (ap (λ (k : ℕ). pos k) same))

-- ---- over whole numbers

-- a fraction in lowest terms has natural numbers
natural_ratio : (a : Fraction) → IsLowest a → ratio (nat_abs a.n) (nat_abs a.d) ≡ a
natural_ratio a lowest =
    let above : pos 0 ≤ℤ a.d = let least : pos 1 ≤ℤ a.d = lowest.not_negative.denominator in omega (arith, ints) in
    λ i. record { n = magnitude_is lowest.not_negative.numerator i; d = magnitude_is above i }

-- over u and times u again
pub over_times : (a : Fraction) (u : ℕ) → 0 < u → IsLowest a → lowest_form (multiple u (lowest_form (over u a))) ≡ a
over_times a u some lowest =
    let natural = natural_ratio a lowest in
    subst (λ (f : Fraction). lowest_form (multiple u (lowest_form (over u f))) ≡ f) natural (ratio_over_times (nat_abs a.n) (nat_abs a.d) u some (subst IsLowest (sym natural) lowest))

-- times u and over u again
pub times_over : (a : Fraction) (u : ℕ) → 0 < u → IsLowest a → lowest_form (over u (lowest_form (multiple u a))) ≡ a
times_over a u some lowest =
    let natural = natural_ratio a lowest in
    subst (λ (f : Fraction). lowest_form (over u (lowest_form (multiple u f))) ≡ f) natural (ratio_times_over (nat_abs a.n) (nat_abs a.d) u some (subst IsLowest (sym natural) lowest))

-- times u it keeps its range where its numerator does
pub times_range : (a : Fraction) (u : ℕ) → 0 < u → IsFraction a → nat_abs (lowest_form (multiple u a)).n ≤ 2 ^ 126 → IsFraction (lowest_form (multiple u a))
times_range a u some range small =
    let natural = natural_ratio a range.lowest in
    subst (λ (f : Fraction). nat_abs (lowest_form (multiple u f)).n ≤ 2 ^ 126 → IsFraction (lowest_form (multiple u f))) natural (ratio_times_range (nat_abs a.n) (nat_abs a.d) u some (subst IsFraction (sym natural) range)) small

-- over 1 it is itself
pub over_one : (a : Fraction) (u : ℕ) → u ≡ 1 → IsLowest a → lowest_form (over u a) ≡ a
over_one a u one lowest =
    let natural = natural_ratio a lowest in
    subst (λ (f : Fraction). lowest_form (over u f) ≡ f) natural (ratio_over_one (nat_abs a.n) (nat_abs a.d) u one (subst IsLowest (sym natural) lowest))

-- ---- powers

-- a power of 1
pub one_power : (p : ℕ) → 1 ^ p ≡ 1
one_power zero = refl
one_power (suc p) = omega (arith, one_power p)

-- a power of a scale is above 0
pub some_power : (s p : ℕ) → 1 ≤ s → 0 < s ^ p
some_power s p some = omega (arith, one-le-pow p s (omega (arith, some)))

-- The lowest form of a fraction has its value.
use Prim.Native.Nat.{◌∣◌}
use Rattle.std.proofs.Common.{◌≡◌, sym, ◌∙◌, ap, ℕ, ◌/◌, ◌<◌, ℤ, pos, ◌*ℤ◌, ◌≤ℤ◌, nat_abs, [], ◌∷◌, arith}
use Rattle.std.specs.Int.{IsGcd}
use Rattle.std.proofs.lemmas.Int.{ints}
use Rattle.std.proofs.lemmas.List.Elements.{All-head, All-tail}
use Rattle.std.proofs.Math.IntN.{pos-*ℤ-pos}
use Rattle.integers.specs.LowestTerms.{IsLowestTerms}
use Rattle.integers.proofs.Divisors.{one_from_IsGcd}
use Rattle.integers.proofs.LowestTerms.{IsLowestTerms-div, lowest_value}
use Rattle.integers.proofs.Magnitudes.{magnitude_is}
use Rattle.integers.proofs.Order.{nonneg_from_one}
use Rattle.bounds_model.specs.Fractions.{Fraction, IsNotNegative, common_factor, lowest_form}
use Rattle.bounds_model.specs.Best.{IsPrintedSize}
use Rattle.text_laws.proofs.AnswerTexts.FactorLaws.{first_step}

-- a fraction's numbers over their factor, as numbers without a sign
lowest_by_parts : (a : Fraction) (n d g : ℕ) → pos n ≡ a.n → pos d ≡ a.d → IsGcd n d g → pos 1 ≤ℤ a.d → IsPrintedSize a (record { n = pos (n / g); d = pos (d / g) })
lowest_by_parts a n d g numerator denominator gcd least = record {
  lowest = record {
    not_negative = record { numerator = not_below (n / g); denominator = from_one (d / g) terms.denominator };
    lowest = λ k h. one_from_IsGcd (n / g) (d / g) terms.common_factor k (All-head (λ e. k ∣ nat_abs e) (pos (n / g)) (pos (d / g) ∷ []) h)
        (All-head (λ e. k ∣ nat_abs e) (pos (d / g)) [] (All-tail (λ e. k ∣ nat_abs e) (pos (n / g)) (pos (d / g) ∷ []) h));
  };
  same = ap (λ z. pos (n / g) *ℤ z) (sym denominator) ∙ pos-*ℤ-pos (n / g) d ∙ ap pos (lowest_value n d g gcd) ∙ sym (pos-*ℤ-pos n (d / g)) ∙ ap (λ z. z *ℤ pos (d / g)) numerator;
}
  where
    not_below : (k : ℕ) → pos 0 ≤ℤ pos k
    not_below k = omega (arith, ints)

    from_one : (k : ℕ) → 0 < k → pos 1 ≤ℤ pos k
    from_one k h = omega (arith, ints)

    above : (d : ℕ) (z : ℤ) → pos d ≡ z → pos 1 ≤ℤ z → 0 < d
    above d z e h = omega (arith, ints)

    terms : IsLowestTerms (n / g) (d / g)
    terms = IsLowestTerms-div n d g (above d a.d denominator least) gcd

-- the lowest form prints the fraction
pub lowest_form_prints : (a : Fraction) → IsNotNegative a → IsPrintedSize a (lowest_form a)
lowest_form_prints a h =
    lowest_by_parts a (nat_abs a.n) (nat_abs a.d) (common_factor (a.n ∷ a.d ∷ [])) (magnitude_is h.numerator) (magnitude_is (nonneg_from_one h.denominator)) (first_step a.n (a.d ∷ [])) h.denominator

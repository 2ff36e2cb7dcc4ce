-- The test for entries without a common factor says what it should.
use Prim.Native.Nat.{◌∣◌, ◌%◌}
use Rattle.std.proofs.Common.{refl, subst, ℕ, zero, suc, ◌<◌, ℤ, nat_abs, List, [], ◌∷◌, arith}
use Rattle.std.specs.Prelude.{All, Decides, ◌==◌}
use Rattle.std.specs.Int.{IsGcd}
use Rattle.std.proofs.Math.Nat.{eq-one_of_dvd-one}
use Rattle.std.proofs.lemmas.Nat.Gcd.{IsGcd-from_zero, IsGcd-from_mod, dvd-zero, dvd_trans, dvd_refl}
use Rattle.std.proofs.lemmas.List.Elements.{All-nil, All-cons, All-head, All-tail}
use Rattle.std.proofs.lemmas.Bool.Decides.{Decides-eqb, Decides-like}
use Rattle.bounds_model.specs.Fractions.{HaveNoCommonFactor}
use Rattle.bounds_model.specs.Fractions.{common_divisor, common_factor}

-- remainders lead to the greatest common divisor
divisor_is : (steps a b : ℕ) → b < steps → IsGcd a b (common_divisor steps a b)
divisor_is zero a b h = absurd (omega arith)
divisor_is (suc steps) a zero h = IsGcd-from_zero a 0 refl
divisor_is (suc steps) a (suc b) h = IsGcd-from_mod a (suc b) _ (divisor_is steps (suc b) (a % suc b) (omega arith))

-- the factor of a list is that of its first entry and of the rest
pub first_step : (e : ℤ) (es : List ℤ) → IsGcd (nat_abs e) (common_factor es) (common_factor (e ∷ es))
first_step e es = divisor_is (suc (common_factor es)) (nat_abs e) (common_factor es) (omega arith)

-- the number divides the entry
abbrev Divides : ℕ → ℤ → Type 0
Divides k e = k ∣ nat_abs e

-- what divides the factor divides each entry
factor_divides : (k : ℕ) (es : List ℤ) → k ∣ common_factor es → All (Divides k) es
factor_divides k [] h = All-nil (Divides k)
factor_divides k (e ∷ es) h = All-cons (Divides k) e es (dvd_trans k h (first_step e es).0) (factor_divides k es (dvd_trans k h (first_step e es).1))

-- what divides each entry divides the factor
divides_factor : (k : ℕ) (es : List ℤ) → All (Divides k) es → k ∣ common_factor es
divides_factor k [] h = dvd-zero k
divides_factor k (e ∷ es) h = (first_step e es).2 k (All-head (Divides k) e es h) (divides_factor k es (All-tail (Divides k) e es h))

-- the factor is 1 exactly where the entries have no common factor
pub factor_decides : (es : List ℤ) → Decides (common_factor es == 1) (HaveNoCommonFactor es)
factor_decides es =
    Decides-like (common_factor es == 1) (λ e. λ k h. eq-one_of_dvd-one (subst (λ n. k ∣ n) e (divides_factor k es h))) (λ f. f (common_factor es) (factor_divides (common_factor es) es (dvd_refl (common_factor es))))
    (Decides-eqb (common_factor es) 1)

-- A test for entries without a common factor: their greatest common divisor is 1.
use Prim.Native.Nat.{◌∣◌}
use Rattle.std.proofs.Common.{◌≡◌, subst, ℤ, List}
use Rattle.std.specs.Prelude.{Decides, ◌==◌}
use Rattle.std.proofs.Math.Nat.{eq-one_of_dvd-one}
use Rattle.std.proofs.lemmas.Nat.Gcd.{dvd_refl}
use Rattle.std.proofs.lemmas.Bool.Decides.{Decides-eqb, Decides-like}
use Rattle.integers.proofs.Divisors.{gcd_all, gcd_all-dvd, dvd-gcd_all}
use Rattle.bounds_model.specs.Fractions.{HaveNoCommonFactor}
use Rattle.model_laws.proofs.Decisions.{Decision, whole}

-- entries whose greatest common divisor is 1 have no common factor
pub lowest_from_gcd : (es : List ℤ) → gcd_all es ≡ 1 → HaveNoCommonFactor es
lowest_from_gcd es e k h = eq-one_of_dvd-one (subst (λ n. k ∣ n) e (dvd-gcd_all k es h))

-- and the other way round
pub gcd_from_lowest : (es : List ℤ) → HaveNoCommonFactor es → gcd_all es ≡ 1
gcd_from_lowest es h = h (gcd_all es) (gcd_all-dvd (gcd_all es) es (dvd_refl (gcd_all es)))

-- so the test decides
pub factor_law : (es : List ℤ) → Decides (gcd_all es == 1) (HaveNoCommonFactor es)
factor_law es = Decides-like (gcd_all es == 1) (lowest_from_gcd es) (gcd_from_lowest es) (Decides-eqb (gcd_all es) 1)

-- the test
abbrev pub no_common_factor : (es : List ℤ) → Decision (HaveNoCommonFactor es)
no_common_factor es = whole (gcd_all es == 1) (factor_law es)

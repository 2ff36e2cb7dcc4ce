-- A test whether a vector is a multiple of one in lowest terms: the multiple is the common factor of its entries.
use Rattle.std.proofs.Common.{◌≡◌, sym, ◌∙◌, ap, subst, ℕ, ◌*◌, ℤ, pos, negsuc, ◌*ℤ◌, ◌≤ℤ◌, List, [], ◌∷◌, map, arith}
use Rattle.integers.proofs.Divisors.{gcd_all, gcd_all-scale}
use Rattle.bounds_model.specs.Space.{SpacePoint, times}
use Rattle.bounds_model.specs.Fractions.{HaveNoCommonFactor}
use Rattle.bounds_model.specs.DistanceAnswer.{IsMultipleOfLowest}
use Rattle.model_laws.proofs.Decisions.{Decision, like, both, most_ℤ}
use Rattle.model_laws.proofs.DecideParts.{same_space_point}
use Rattle.model_laws.proofs.CommonFactors.{gcd_from_lowest, no_common_factor}

-- the entries
abbrev pub list_of : SpacePoint → List ℤ
list_of v = v.x ∷ v.y ∷ v.z ∷ []

-- the greatest common divisor of k times entries without a common factor is k
gcd_of_multiples : (k : ℕ) (es : List ℤ) → HaveNoCommonFactor es → gcd_all (map (λ e. pos k *ℤ e) es) ≡ k
gcd_of_multiples k es lowest = gcd_all-scale (pos k) es ∙ ap (λ n. k * n) (gcd_from_lowest es lowest) ∙ times_one k
  where
    times_one : (k : ℕ) → k * 1 ≡ k
    times_one k = omega arith

-- the parts of the test
abbrev pub HasFactor : SpacePoint → SpacePoint → ℤ → Type 0
HasFactor v d factor = (pos 1 ≤ℤ factor) × ((v ≡ times factor d) × HaveNoCommonFactor (list_of d))

-- they make a multiple
pub to_multiple : (v d : SpacePoint) → HasFactor v d (pos (gcd_all (list_of v))) → IsMultipleOfLowest v d
to_multiple v d h = record { factor = pos (gcd_all (list_of v)); positive = h.0; multiple = h.1.0; lowest = h.1.1 }

-- and a multiple has them, since its factor is the greatest common divisor
pub from_multiple : (v d : SpacePoint) → IsMultipleOfLowest v d → HasFactor v d (pos (gcd_all (list_of v)))
from_multiple v d h = by_factor h.factor h.positive h.multiple h.lowest
  where
    by_factor : (f : ℤ) → pos 1 ≤ℤ f → v ≡ times f d → HaveNoCommonFactor (list_of d) → HasFactor v d (pos (gcd_all (list_of v)))
    by_factor (pos k) p e low =
        let is : gcd_all (list_of v) ≡ k = subst (λ u. gcd_all (list_of u) ≡ k) (sym e) (gcd_of_multiples k (list_of d) low) in
        subst (λ n. HasFactor v d (pos n)) (sym is) (p, (e, low))
    by_factor (negsuc k) p e low = absurd p.le

-- the test
abbrev pub multiple_of_lowest : (v d : SpacePoint) → Decision (IsMultipleOfLowest v d)
multiple_of_lowest v d =
    let g = pos (gcd_all (list_of v)) in
    like (both (most_ℤ (pos 1) g) (both (same_space_point v (times g d)) (no_common_factor (list_of d)))) (to_multiple v d) (from_multiple v d)

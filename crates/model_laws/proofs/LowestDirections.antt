-- Directions in lowest terms: where p x + q y is 0, x and y are no longer than q and p.
use Prim.Native.Nat.{◌∣◌}
use Rattle.std.proofs.Common.{◌≡◌, ◌≢◌, refl, sym, ◌∙◌, subst, ℕ, zero, suc, ◌+◌, ◌*◌, ◌<◌, ◌≤◌, ℤ, pos, negsuc, ◌+ℤ◌, ◌*ℤ◌, [], ◌∷◌, nat_abs, arith}
use Rattle.std.proofs.Math.Nat.{dvd-mul_left}
use Rattle.std.proofs.lemmas.Int.{ints, unsigned_abs-mul}
use Rattle.std.proofs.lemmas.Nat.Gcd.{le_of_dvd}
use Rattle.std.proofs.lemmas.List.Elements.{All-nil, All-cons}
use Rattle.std.specs.Int.{IsGcd}
use Rattle.integers.proofs.Divisors.{IsGcd-one, dvd_of_dvd-mul}
use Rattle.bounds_model.specs.Plane.{PlanePoint, origin}
use Rattle.bounds_model.specs.Fractions.{HaveNoCommonFactor}

-- ---- two products that are equal: a factor without a common factor with its partner divides the other's partner

side : (p q x y limit : ℕ) → IsGcd y x 1 → x * p ≡ y * q → 0 < p + q → p ≤ limit → y ≤ limit
side zero zero x y limit g e some h = absurd (omega (arith, some))
side zero (suc q) x y limit g e some h = omega (arith, e)
side (suc p) q x y limit g e some h =
    up y (suc p) limit (le_of_dvd (positive p) (dvd_of_dvd-mul y x (suc p) g (subst (λ n. y ∣ n) (other y q ∙ sym e) (dvd-mul_left y q)))) h
  where
    positive : (p : ℕ) → 0 < suc p
    positive p = omega arith

    other : (y q : ℕ) → q * y ≡ y * q
    other y q = omega arith

    up : (a b c : ℕ) → a ≤ b → b ≤ c → a ≤ c
    up a b c l m = omega arith

-- a sum of two products that is 0 has products of one magnitude
magnitudes : (p q x y : ℤ) → p *ℤ x +ℤ q *ℤ y ≡ pos 0 → nat_abs x * nat_abs p ≡ nat_abs y * nat_abs q
magnitudes p q x y e =
    turned (nat_abs x) (nat_abs p) ∙ sym (unsigned_abs-mul p x) ∙ opposite (p *ℤ x) (q *ℤ y) e ∙ unsigned_abs-mul q y ∙ turned (nat_abs q) (nat_abs y)
  where
    turned : (a b : ℕ) → a * b ≡ b * a
    turned a b = omega arith

    opposite : (a b : ℤ) → a +ℤ b ≡ pos 0 → nat_abs a ≡ nat_abs b
    opposite a b e = omega (arith, ints)

pub some_part : (e : PlanePoint) → e ≢ origin → 0 < nat_abs e.x + nat_abs e.y
some_part e n = by_parts e.x e.y (λ a b. n (λ i. record { x = a i; y = b i }))
  where
    by_parts : (x y : ℤ) → (x ≡ pos 0 → y ≡ pos 0 → ⊥) → 0 < nat_abs x + nat_abs y
    by_parts (pos zero) (pos zero) n = absurd (n refl refl)
    by_parts (pos zero) (pos (suc y)) n = omega arith
    by_parts (pos zero) (negsuc y) n = omega arith
    by_parts (pos (suc x)) y n = omega arith
    by_parts (negsuc x) y n = omega arith

abbrev pub IsSmall : ℕ → PlanePoint → Type 0
IsSmall limit d = (nat_abs d.x ≤ limit) × (nat_abs d.y ≤ limit)

-- a direction in lowest terms with p x + q y = 0 is within the limit of p and q
pub within_limit : (p q : ℤ) (d : PlanePoint) (limit : ℕ) → HaveNoCommonFactor (d.x ∷ d.y ∷ []) → 0 < nat_abs p + nat_abs q → p *ℤ d.x +ℤ q *ℤ d.y ≡ pos 0
    → nat_abs p ≤ limit → nat_abs q ≤ limit → IsSmall limit d
within_limit p q d limit lowest some e hp hq = (
  side (nat_abs q) (nat_abs p) (nat_abs d.y) (nat_abs d.x) limit (IsGcd-one (nat_abs d.x) (nat_abs d.y) (λ k a b. common k a b)) (sym
      (magnitudes p q d.x d.y e)) (other (nat_abs p) (nat_abs q) some) hq,
  side (nat_abs p) (nat_abs q) (nat_abs d.x) (nat_abs d.y) limit (IsGcd-one (nat_abs d.y) (nat_abs d.x) (λ k b a. common k a b))
      (magnitudes p q d.x d.y e) some hp,
)
  where
    common : (k : ℕ) → k ∣ nat_abs d.x → k ∣ nat_abs d.y → k ≡ 1
    common k a b =
        lowest k (All-cons (λ (z : ℤ). k ∣ nat_abs z) d.x (d.y ∷ []) a (All-cons (λ (z : ℤ). k ∣ nat_abs z) d.y [] b (All-nil (λ
        (z : ℤ). k ∣ nat_abs z))))

    other : (a b : ℕ) → 0 < a + b → 0 < b + a
    other a b h = omega arith

-- A vector over the common factor of its entries: it is there, and there is one of them.
use Prim.Native.Nat.{◌∣◌}
use Rattle.std.proofs.Common.{◌≡◌, sym, subst, ◌∙◌, ap, ap₂, ℕ, ◌*◌, ◌^◌, ◌<◌, ◌≤◌, ◌⊎◌, inl, inr, ℤ, pos, ◌*ℤ◌, ◌≤ℤ◌, nat_abs, List, [], ◌∷◌, arith}
use Rattle.std.specs.Prelude.{All}
use Rattle.std.proofs.lemmas.Int.{ints}
use Rattle.std.proofs.lemmas.List.Elements.{All-nil, All-cons, All-head, All-tail}
use Rattle.std.proofs.Math.Nat.{dvd_refl, dvd_trans, dvd_antisymm, le_of_dvd, eq-zero_of_zero-dvd, pos_of_ne-zero}
use Rattle.integers.proofs.Order.{positive_from_one, same_of_mul}
use Rattle.integers.proofs.Divisors.{gcd_all, gcd_all-dvd, dvd-gcd_all, gcd_all-scale, gcd_all_one}
use Rattle.exact_fractions.specs.Divisors.{IsDivisorOf}
use Rattle.exact_fractions.proofs.LowestForms.{no_factor_left}
use Rattle.bounds_model.specs.Space.{SpacePoint, origin, times}
use Rattle.bounds_model.specs.DistanceAnswer.{IsDirectionOf, IsMultipleOfLowest}
use Rattle.kernel_laws.specs.Limits.{IsVectorWithin}
use Rattle.kernel_laws.proofs.Points.{same_point}
use Rattle.pair_sums.specs.Means.{IsCommonFactor}

-- the entries of a vector
abbrev pub entries : SpacePoint → List ℤ
entries v = v.x ∷ v.y ∷ v.z ∷ []

-- what divides three numbers divides each, and back
pub three : (P : ℤ → Type 0) (v : SpacePoint) → All P (entries v) → P v.x × P v.y × P v.z
three P v all = (
  All-head P v.x (v.y ∷ v.z ∷ []) all,
  All-head P v.y (v.z ∷ []) (All-tail P v.x (v.y ∷ v.z ∷ []) all),
  All-head P v.z [] (All-tail P v.y (v.z ∷ []) (All-tail P v.x (v.y ∷ v.z ∷ []) all)),
)

pub all_three : (P : ℤ → Type 0) (v : SpacePoint) → P v.x → P v.y → P v.z → All P (entries v)
all_three P v x y z = All-cons P v.x (v.y ∷ v.z ∷ []) x (All-cons P v.y (v.z ∷ []) y (All-cons P v.z [] z (All-nil P)))

-- the common factor is the greatest common divisor of the entries
pub factor_is : (v : SpacePoint) (k : ℕ) → IsCommonFactor (entries v) k → gcd_all (entries v) ≡ k
factor_is v k h = dvd_antisymm (h.greatest (gcd_all (entries v)) (gcd_all-dvd (gcd_all (entries v)) (entries v) (dvd_refl (gcd_all (entries v))))) (dvd-gcd_all k (entries v) h.divides)

-- two calls find it
pub factor_by : (v : SpacePoint) (a b c g k : ℕ) → a ≡ nat_abs v.x → b ≡ nat_abs v.y → c ≡ nat_abs v.z → (g ∣ b) × (g ∣ c) × ((d : ℕ) → d ∣ b → d ∣ c → d ∣ g) → (k ∣ a) × (k ∣ g) × ((d : ℕ) → d ∣ a → d ∣ g → d ∣ k)
    → IsCommonFactor (entries v) k
factor_by v a b c g k x y z inner outer = record {
  divides = all_three (λ e. k ∣ nat_abs e) v (subst (λ n. k ∣ n) x outer.0) (subst (λ n. k ∣ n) y (dvd_trans k outer.1 inner.0)) (subst (λ n. k ∣ n) z (dvd_trans k outer.1 inner.1));
  greatest = λ d all. let each = three (λ e. d ∣ nat_abs e) v all in
      outer.2 d (subst (λ n. d ∣ n) (sym x) each.0) (inner.2 d (subst (λ n. d ∣ n) (sym y) each.1) (subst (λ n. d ∣ n) (sym z) each.2));
}

zero_entry : (e : ℤ) → nat_abs e ≡ 0 → e ≡ pos 0
zero_entry e h = omega (arith, ints)

-- where it is 0, so is the vector
pub zero_vector : (v : SpacePoint) (k : ℕ) → IsCommonFactor (entries v) k → k ≡ 0 → v ≡ origin
zero_vector v k h e =
    let each = three (λ e. k ∣ nat_abs e) v h.divides in
    same_point (zero v.x each.0) (zero v.y each.1) (zero v.z each.2)
  where
    zero : (e : ℤ) → k ∣ nat_abs e → e ≡ pos 0
    zero a d = zero_entry a (eq-zero_of_zero-dvd (subst (λ n. n ∣ nat_abs a) e d))

-- a divisor of a number within a limit is within it, or the number is 0
within_or_zero : (k n m : ℕ) → k ∣ n → n ≤ m → (k ≤ m) ⊎ (n ≡ 0)
within_or_zero k n m d l = elim (zero_or_some n) [
  | inl none ↦ inr none
  | inr some ↦ inl (let most = le_of_dvd some d in omega arith)
]
  where
    zero_or_some : (n : ℕ) → (n ≡ 0) ⊎ (0 < n)
    zero_or_some n = grind arith

-- else it is within the limit of the entries
factor_within : (v : SpacePoint) (k m : ℕ) → IsCommonFactor (entries v) k → IsVectorWithin m v → (k ≡ 0 → ⊥) → k ≤ m
factor_within v k m h within some =
    let each = three (λ e. k ∣ nat_abs e) v h.divides in
    elim (within_or_zero k (nat_abs v.x) m each.0 within.x.abs) [
      | inl l ↦ l
      | inr x ↦ elim (within_or_zero k (nat_abs v.y) m each.1 within.y.abs) [
        | inl l ↦ l
        | inr y ↦ elim (within_or_zero k (nat_abs v.z) m each.2 within.z.abs) [
          | inl l ↦ l
          | inr z ↦ absurd (some (eq-zero_of_zero-dvd (h.greatest 0 (all_three (λ e. 0 ∣ nat_abs e) v (none x) (none y) (none z)))))
        ]
      ]
    ]
  where
    none : {n : ℕ} → n ≡ 0 → 0 ∣ n
    none {n} e = subst (λ m. 0 ∣ m) (sym e) (dvd_refl 0)

-- and divides them
pub divides_each : (v : SpacePoint) (k : ℕ) → IsCommonFactor (entries v) k → IsVectorWithin (2 ^ 80) v → (k ≡ 0 → ⊥) → IsDivisorOf k v.x × IsDivisorOf k v.y × IsDivisorOf k v.z
divides_each v k h within some =
    let each = three (λ e. k ∣ nat_abs e) v h.divides in
    let most = factor_within v k (2 ^ 80) h within some in
    let limited : k ≤ 2 ^ 126 = omega arith in
    let positive = pos_of_ne-zero some in
    (record { positive = positive; limited = limited; divides = each.0 }, record { positive = positive; limited = limited; divides = each.1 }, record { positive = positive; limited = limited; divides = each.2 })

-- the quotients are the direction
pub direction_by : (v d : SpacePoint) (k : ℕ) → IsCommonFactor (entries v) k → (k ≡ 0 → ⊥) → pos k *ℤ d.x ≡ v.x → pos k *ℤ d.y ≡ v.y → pos k *ℤ d.z ≡ v.z → IsDirectionOf v d
direction_by v d k h some x y z =
    let positive : 0 < k = pos_of_ne-zero some in
    inr (record {
      factor = pos k;
      positive = omega (arith, ints);
      multiple = same_point (sym x) (sym y) (sym z);
      lowest = no_factor_left k (entries d) positive (ap₂ (λ x s. gcd_all (x ∷ s)) x (ap₂ (λ y z. y ∷ z ∷ []) y z) ∙ factor_is v k h);
    })

-- ---- there is one direction

-- the greatest common divisor of a multiple of entries with no common factor
factor_of : (v d : SpacePoint) (m : IsMultipleOfLowest v d) → gcd_all (entries v) ≡ nat_abs m.factor
factor_of v d m =
    ap (λ w. gcd_all (entries w)) m.multiple ∙ gcd_all-scale m.factor (entries d) ∙ ap (λ n. nat_abs m.factor * n) (gcd_all_one (entries d) m.lowest) ∙ one (nat_abs m.factor)
  where
    one : (n : ℕ) → n * 1 ≡ n
    one n = omega arith

same_factor : (f g : ℤ) → pos 1 ≤ℤ f → pos 1 ≤ℤ g → nat_abs f ≡ nat_abs g → f ≡ g
same_factor f g h k e = omega (arith, ints)

no_factor : (v d : SpacePoint) → v ≡ origin → IsMultipleOfLowest v d → ⊥
no_factor v d zero m = none m.factor m.positive (sym (factor_of v d m) ∙ ap (λ w. gcd_all (entries w)) zero)
  where
    none : (f : ℤ) → pos 1 ≤ℤ f → nat_abs f ≡ 0 → ⊥
    none f h e = omega (arith, ints)

pub direction_unique : (v d e : SpacePoint) → IsDirectionOf v d → IsDirectionOf v e → d ≡ e
direction_unique v d e (inl a) (inl b) = a.1 ∙ sym b.1
direction_unique v d e (inl a) (inr n) = absurd (no_factor v e a.0 n)
direction_unique v d e (inr m) (inl b) = absurd (no_factor v d b.0 m)
direction_unique v d e (inr m) (inr n) =
    let same : m.factor ≡ n.factor = same_factor m.factor n.factor m.positive n.positive (sym (factor_of v d m) ∙ factor_of v e n) in
    let scaled : times m.factor d ≡ times m.factor e = sym m.multiple ∙ n.multiple ∙ ap (λ f. times f e) (sym same) in
    let above = positive_from_one m.positive in
    same_point (same_of_mul m.factor above (ap (λ w. w.x) scaled)) (same_of_mul m.factor above (ap (λ w. w.y) scaled)) (same_of_mul m.factor above (ap (λ w. w.z) scaled))

-- Fractions in lowest terms: each has one such form.
use Prim.Native.Nat.{◌∣◌}
use Rattle.std.proofs.Common.{◌≡◌, refl, sym, ◌∙◌, ap, ap₂, subst, ℕ, zero, suc, ◌*◌, ◌/◌, ◌<◌, ℤ, pos, ◌*ℤ◌, ◌<ℤ◌, nat_abs, List, [], ◌∷◌, map, arith}
use Rattle.std.specs.Int.{IsGcd}
use Rattle.std.proofs.lemmas.Int.{ints, unsigned_abs-mul}
use Rattle.std.proofs.Math.IntN.{*ℤ_comm}
use Rattle.std.proofs.Math.Nat.{dvd_antisymm, dvd-mul_left, mul-div_cancel', eq_of_mul-eq-mul_left}
use Rattle.std.proofs.lemmas.Nat.Gcd.{IsGcd-swap}
use Rattle.integers.specs.LowestTerms.{IsLowestTerms}
use Rattle.integers.proofs.Divisors.{dvd_of_dvd-mul, IsGcd-div, gcd_all, gcd_all-scale}
use Rattle.integers.proofs.Order.{same_of_mul}

-- ---- over `ℕ`

-- two lowest forms of one value are the same
pub lowest_unique : (n d m e : ℕ) → IsLowestTerms n d → IsLowestTerms m e → n * e ≡ m * d → (n ≡ m) × (d ≡ e)
lowest_unique n d m e h l q =
    let same : d ≡ e = dvd_antisymm (divides n d m e h.common_factor q) (divides m e n d l.common_factor (sym q)) in
    (eq_of_mul-eq-mul_left d h.denominator n m (sides same q), same)
  where
    divides : (n d m e : ℕ) → IsGcd n d 1 → n * e ≡ m * d → d ∣ e
    divides n d m e c q = dvd_of_dvd-mul d n e (IsGcd-swap n d 1 c) (subst (λ v. d ∣ v) (sym q) (dvd-mul_left d m))

    sides : d ≡ e → n * e ≡ m * d → d * n ≡ d * m
    sides s q = let v : n * d ≡ m * d = subst (λ e. n * e ≡ m * d) (sym s) q in omega arith

-- divided by their greatest common divisor, the numbers of a fraction are its lowest form
pub IsLowestTerms-div : (n d g : ℕ) → 0 < d → IsGcd n d g → IsLowestTerms (n / g) (d / g)
IsLowestTerms-div n d g p h = record { denominator = positive_part (d / g) (mul-div_cancel' g h.1) p; common_factor = IsGcd-div n d g h (positive_divisor g (mul-div_cancel' g h.1) p) }
  where
    positive_part : (k : ℕ) → g * k ≡ d → 0 < d → 0 < k
    positive_part zero e p = absurd (omega arith)
    positive_part (suc k) e p = omega arith

    positive_divisor : (g : ℕ) → g * (d / g) ≡ d → 0 < d → 0 < g
    positive_divisor zero e p = absurd (omega arith)
    positive_divisor (suc g) e p = omega arith

-- and that form has the fraction's value
pub lowest_value : (n d g : ℕ) → IsGcd n d g → n / g * d ≡ n * (d / g)
lowest_value n d g h = sides (n / g) (d / g) (mul-div_cancel' g h.0) (mul-div_cancel' g h.1)
  where
    swap : (a g b : ℕ) → a * (g * b) ≡ g * a * b
    swap a g b = omega arith

    sides : (a b : ℕ) → g * a ≡ n → g * b ≡ d → a * d ≡ n * b
    sides a b e f = ap (λ d. a * d) (sym f) ∙ swap a g b ∙ ap (λ n. n * b) e

-- ---- over `ℤ`

positive_same : {d e : ℤ} → pos 0 <ℤ d → pos 0 <ℤ e → nat_abs d ≡ nat_abs e → d ≡ e
positive_same p q e = omega (arith, ints)

positive_size : {d : ℤ} → pos 0 <ℤ d → 0 < nat_abs d
positive_size p = omega (arith, ints)

-- two lowest forms of one value are the same
pub lowest_unique_ℤ : (n d m e : ℤ) → pos 0 <ℤ d → pos 0 <ℤ e → IsGcd (nat_abs n) (nat_abs d) 1 → IsGcd (nat_abs m) (nat_abs e) 1 → n *ℤ e ≡ m *ℤ d → (n ≡ m) × (d ≡ e)
lowest_unique_ℤ n d m e p r h l q =
    let sizes : nat_abs n * nat_abs e ≡ nat_abs m * nat_abs d = sym (unsigned_abs-mul n e) ∙ ap nat_abs q ∙ unsigned_abs-mul m d in
    let one : IsLowestTerms (nat_abs n) (nat_abs d) = record { denominator = positive_size p; common_factor = h } in
    let other : IsLowestTerms (nat_abs m) (nat_abs e) = record { denominator = positive_size r; common_factor = l } in
    let same : d ≡ e = positive_same p r (lowest_unique (nat_abs n) (nat_abs d) (nat_abs m) (nat_abs e) one other sizes).1 in
    (same_of_mul d p (*ℤ_comm d n ∙ ap (λ e. n *ℤ e) same ∙ q ∙ *ℤ_comm m d), same)

same_scaled : (k : ℤ) → pos 0 <ℤ k → (s t : List ℤ) → map (λ x. k *ℤ x) s ≡ map (λ x. k *ℤ x) t → s ≡ t
same_scaled k p [] [] e = refl
same_scaled k p [] (y ∷ t) e = absurd (cc)
same_scaled k p (x ∷ s) [] e = absurd (cc)
same_scaled k p (x ∷ s) (y ∷ t) e =
    let first : k *ℤ x ≡ k *ℤ y = cc in
    let rest : map (λ x. k *ℤ x) s ≡ map (λ x. k *ℤ x) t = cc in
    ap₂ (λ x s. x ∷ s) (same_of_mul k p first) (same_scaled k p s t rest)

-- the same for a list of numerators over one denominator, as a point's: no number but 1 divides them all and the denominator
pub lowest_list_unique : (d e : ℤ) (s t : List ℤ) → pos 0 <ℤ d → pos 0 <ℤ e → gcd_all (d ∷ s) ≡ 1 → gcd_all (e ∷ t) ≡ 1 → map (λ x. e *ℤ x) s ≡ map (λ x. d *ℤ x) t → (s ≡ t) × (d ≡ e)
lowest_list_unique d e s t p r h l q =
    let lists : map (λ x. e *ℤ x) (d ∷ s) ≡ map (λ x. d *ℤ x) (e ∷ t) = ap₂ (λ x s. x ∷ s) (*ℤ_comm e d) q in
    let sizes : nat_abs e * gcd_all (d ∷ s) ≡ nat_abs d * gcd_all (e ∷ t) = sym (gcd_all-scale e (d ∷ s)) ∙ ap gcd_all lists ∙ gcd_all-scale d (e ∷ t) in
    let same : d ≡ e = positive_same p r (equal_parts h l sizes) in
    (same_scaled d p s t (ap (λ k. map (λ x. k *ℤ x) s) same ∙ q), same)
  where
    equal_parts : {x y : ℕ} → x ≡ 1 → y ≡ 1 → nat_abs e * x ≡ nat_abs d * y → nat_abs d ≡ nat_abs e
    equal_parts h l q = let v : nat_abs e * 1 ≡ nat_abs d * 1 = ap (λ n. nat_abs e * n) (sym h) ∙ q ∙ ap (λ n. nat_abs d * n) l in omega arith

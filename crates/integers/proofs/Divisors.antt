-- The greatest common divisor, computed by Euclid's remainders, and Euclid's laws of it. `IsGcd` and the steps of a loop stand in std's `Nat.Gcd`.
use Prim.Native.Nat.{◌∣◌}
use Rattle.std.proofs.Common.{◌≡◌, refl, sym, ◌∙◌, ap, subst, ℕ, zero, suc, ◌+◌, ◌*◌, ◌/◌, ◌%◌, ◌<◌, ℤ, ◌*ℤ◌, nat_abs, List, [], ◌∷◌, map, arith, mul_comm, ap₂}
use Rattle.std.specs.Prelude.{All}
use Rattle.std.specs.Int.{IsGcd}
use Rattle.std.proofs.lemmas.Int.{unsigned_abs-mul}
use Rattle.std.proofs.Math.Nat.{dvd_refl, dvd-zero, dvd_trans, dvd_antisymm, dvd-mul_left, dvd-mul_right, one-dvd, mul-dvd-mul_left, mul-div_cancel', dvd_of_mul-dvd-mul_left, eq-one_of_dvd-one}
use Rattle.std.proofs.lemmas.Nat.Gcd.{IsGcd-from_zero, IsGcd-from_mod, same_from_IsGcd}
use Rattle.std.proofs.lemmas.List.Elements.{All-nil, All-cons, All-head, All-tail}

-- ---- two numbers

-- Euclid's remainders, at most so many
abbrev pub euclid : ℕ → ℕ → ℕ → ℕ
euclid zero a b = a
euclid (suc steps) a zero = a
euclid (suc steps) a (suc b) = euclid steps (suc b) (a % suc b)

-- the greatest common divisor of a and b
abbrev pub gcd : ℕ → ℕ → ℕ
gcd a b = euclid (suc b) a b

IsGcd-euclid : (steps a b : ℕ) → b < steps → IsGcd a b (euclid steps a b)
IsGcd-euclid zero a b h = absurd (omega arith)
IsGcd-euclid (suc steps) a zero h = IsGcd-from_zero a 0 refl
IsGcd-euclid (suc steps) a (suc b) h = IsGcd-from_mod a (suc b) _ (IsGcd-euclid steps (suc b) (a % suc b) (omega arith))

-- it is their greatest common divisor
pub IsGcd-gcd : (a b : ℕ) → IsGcd a b (gcd a b)
IsGcd-gcd a b = IsGcd-euclid (suc b) a b (omega arith)

-- `gcd` is the only one
pub gcd_is : (a b g : ℕ) → IsGcd a b g → gcd a b ≡ g
gcd_is a b g h = same_from_IsGcd a b (gcd a b) g (IsGcd-gcd a b) h

-- it divides the first
pub gcd-dvd_left : (a b : ℕ) → gcd a b ∣ a
gcd-dvd_left a b = (IsGcd-gcd a b).0

-- and the second
pub gcd-dvd_right : (a b : ℕ) → gcd a b ∣ b
gcd-dvd_right a b = (IsGcd-gcd a b).1

-- each common divisor divides it
pub dvd-gcd : (k a b : ℕ) → k ∣ a → k ∣ b → k ∣ gcd a b
dvd-gcd k a b h l = (IsGcd-gcd a b).2 k h l

-- numbers of which one is above 0 have a greatest common divisor above 0
pub gcd_positive : (a b : ℕ) → 0 < a + b → 0 < gcd a b
gcd_positive a b h = by_cases (gcd a b) refl
  where
    none : (n : ℕ) → 0 ∣ n → n ≡ 0
    none n d = sym (mul-div_cancel' 0 d) ∙ omega arith

    by_cases : (g : ℕ) → gcd a b ≡ g → 0 < g
    by_cases zero e =
        let l = none a (subst (λ g. g ∣ a) e (gcd-dvd_left a b)) in
        let r = none b (subst (λ g. g ∣ b) e (gcd-dvd_right a b)) in
        absurd (omega arith)
    by_cases (suc g) e = omega arith

-- ---- factors

-- a common factor of both numbers is one of their greatest common divisor
pub gcd-mul : (k a b : ℕ) → gcd (k * a) (k * b) ≡ k * gcd a b
gcd-mul zero a b = ap₂ gcd (by_zero a) (by_zero b) ∙ sym (by_zero (gcd a b))
  where
    by_zero : (n : ℕ) → 0 * n ≡ 0
    by_zero n = omega arith
gcd-mul (suc k) a b =
    let K = suc k in
    let g = gcd (K * a) (K * b) in
    let whole : K * (g / K) ≡ g = mul-div_cancel' K (dvd-gcd K (K * a) (K * b) (dvd-mul_right K a) (dvd-mul_right K b)) in
    let left : g / K ∣ a = dvd_of_mul-dvd-mul_left (g / K) (omega arith) (subst (λ n. n ∣ K * a) (sym whole) (gcd-dvd_left (K * a) (K * b))) in
    let right : g / K ∣ b = dvd_of_mul-dvd-mul_left (g / K) (omega arith) (subst (λ n. n ∣ K * b) (sym whole) (gcd-dvd_right (K * a) (K * b))) in
    dvd_antisymm
    (subst (λ n. n ∣ K * gcd a b) whole (mul-dvd-mul_left (g / K) K (dvd-gcd (g / K) a b left right)))
    (dvd-gcd (K * gcd a b) (K * a) (K * b) (mul-dvd-mul_left (gcd a b) K (gcd-dvd_left a b)) (mul-dvd-mul_left (gcd a b) K (gcd-dvd_right a b)))

-- the same of a greatest common divisor that is given
pub IsGcd-mul : (k a b g : ℕ) → IsGcd a b g → IsGcd (k * a) (k * b) (k * g)
IsGcd-mul k a b g h =
    subst (IsGcd (k * a) (k * b)) (gcd-mul k a b ∙ ap (λ n. k * n) (gcd_is a b g h)) (IsGcd-gcd (k * a) (k * b))

-- a number that divides a product, and has no factor in common with one part, divides the other
pub dvd_of_dvd-mul : (k a b : ℕ) → IsGcd k a 1 → k ∣ a * b → k ∣ b
dvd_of_dvd-mul k a b h d =
    let one : b * 1 ≡ b = omega arith in
    subst (λ n. k ∣ n) one ((IsGcd-mul b k a 1 h).2 k (dvd-mul_left k b) (subst (λ n. k ∣ n) (mul_comm a b) d))

-- divided by their greatest common divisor, two numbers have no factor in common
pub IsGcd-div : (a b g : ℕ) → IsGcd a b g → 0 < g → IsGcd (a / g) (b / g) 1
IsGcd-div a b g h p = (one-dvd (a / g), one-dvd (b / g), only)
  where
    cancel : (d : ℕ) → g * d ∣ g * 1 → d ∣ 1
    cancel d l = dvd_of_mul-dvd-mul_left d p l

    whole : (d n : ℕ) → g ∣ n → d ∣ n / g → g * d ∣ n
    whole d n l m = subst (λ n. g * d ∣ n) (mul-div_cancel' g l) (mul-dvd-mul_left d g m)

    only : (d : ℕ) → d ∣ a / g → d ∣ b / g → d ∣ 1
    only d l m =
        let one : g ≡ g * 1 = omega arith in
        cancel d (subst (λ n. g * d ∣ n) one (h.2 (g * d) (whole d a h.0 l) (whole d b h.1 m)))

-- where the only common factor is 1, the greatest common divisor is
pub IsGcd-one : (a b : ℕ) → ((k : ℕ) → k ∣ a → k ∣ b → k ≡ 1) → IsGcd a b 1
IsGcd-one a b h = (one-dvd a, one-dvd b, λ k l m. subst (λ n. n ∣ 1) (sym (h k l m)) (dvd_refl 1))

-- and where the greatest common divisor is 1, so is each common factor
pub one_from_IsGcd : (a b : ℕ) → IsGcd a b 1 → (k : ℕ) → k ∣ a → k ∣ b → k ≡ 1
one_from_IsGcd a b h k l m = eq-one_of_dvd-one (h.2 k l m)

-- ---- the entries of a list

-- the greatest common divisor of all entries
abbrev pub gcd_all : List ℤ → ℕ
gcd_all [] = 0
gcd_all (e ∷ es) = gcd (nat_abs e) (gcd_all es)

-- it divides each entry
pub gcd_all-dvd : (k : ℕ) (es : List ℤ) → k ∣ gcd_all es → All (λ e. k ∣ nat_abs e) es
gcd_all-dvd k [] h = All-nil (λ e. k ∣ nat_abs e)
gcd_all-dvd k (e ∷ es) h =
    All-cons (λ e. k ∣ nat_abs e) e es
    (dvd_trans k h (gcd-dvd_left (nat_abs e) (gcd_all es)))
    (gcd_all-dvd k es (dvd_trans k h (gcd-dvd_right (nat_abs e) (gcd_all es))))

-- and each number that divides all entries divides it
pub dvd-gcd_all : (k : ℕ) (es : List ℤ) → All (λ e. k ∣ nat_abs e) es → k ∣ gcd_all es
dvd-gcd_all k [] h = dvd-zero k
dvd-gcd_all k (e ∷ es) h =
    dvd-gcd k (nat_abs e) (gcd_all es) (All-head (λ e. k ∣ nat_abs e) e es h) (dvd-gcd_all k es (All-tail (λ e. k ∣ nat_abs e) e es h))

-- a factor of all entries is one of their greatest common divisor
pub gcd_all-scale : (k : ℤ) (es : List ℤ) → gcd_all (map (λ e. k *ℤ e) es) ≡ nat_abs k * gcd_all es
gcd_all-scale k [] = omega arith
gcd_all-scale k (e ∷ es) =
    ap (λ n. gcd n (gcd_all (map (λ e. k *ℤ e) es))) (unsigned_abs-mul k e)
    ∙ ap (λ n. gcd (nat_abs k * nat_abs e) n) (gcd_all-scale k es)
    ∙ gcd-mul (nat_abs k) (nat_abs e) (gcd_all es)

-- entries whose only common factor is 1 have the greatest common divisor 1
pub gcd_all_one : (es : List ℤ) → ((k : ℕ) → All (λ e. k ∣ nat_abs e) es → k ≡ 1) → gcd_all es ≡ 1
gcd_all_one es h = h (gcd_all es) (gcd_all-dvd (gcd_all es) es (dvd_refl (gcd_all es)))

-- and back
pub one_from_gcd_all : (es : List ℤ) → gcd_all es ≡ 1 → (k : ℕ) → All (λ e. k ∣ nat_abs e) es → k ≡ 1
one_from_gcd_all es e k h = eq-one_of_dvd-one (subst (λ n. k ∣ n) e (dvd-gcd_all k es h))

-- the entries of a fraction in lowest terms
pub IsGcd-from_gcd_all : (n d : ℤ) → gcd_all (n ∷ d ∷ []) ≡ 1 → IsGcd (nat_abs n) (nat_abs d) 1
IsGcd-from_gcd_all n d e = subst (IsGcd (nat_abs n) (nat_abs d)) e (IsGcd-gcd (nat_abs n) (nat_abs d))

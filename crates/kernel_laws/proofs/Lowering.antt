-- The greatest common divisor of a list, entry by entry, and the list over it.
use Prim.Native.Nat.{◌∣◌}
use Rattle.std.proofs.Common.{◌≡◌, refl, sym, ◌∙◌, ap, subst, ℕ, zero, suc, ◌*◌, ◌/◌, ◌≤◌, ℤ, pos, ◌*ℤ◌, ◌<ℤ◌, List, [], ◌∷◌, nat_abs, arith}
use Rattle.std.specs.Prelude.{All}
use Rattle.std.specs.Int.{IsGcd}
use Rattle.std.proofs.lemmas.Int.{ints, unsigned_abs-mul}
use Rattle.std.proofs.lemmas.List.Elements.{All-nil, All-cons, All-head, All-tail}
use Rattle.std.proofs.Math.Nat.{dvd_refl, dvd-zero, dvd_trans, le_of_dvd, mul-div_cancel', mul-dvd-mul_left, dvd_of_mul-dvd-mul_left, eq-one_of_dvd-one}
use Rattle.integers.specs.Total.{total}
use Rattle.integers.proofs.Divisors.{gcd, gcd_is, gcd-dvd_left, gcd-dvd_right, dvd-gcd}
use Rattle.kernel_laws.specs.Solutions.{Reduces}
use Rattle.kernel_laws.proofs.Levels.{scaled}

-- the greatest common divisor of d and all entries
abbrev pub gcd_along : ℕ → List ℤ → ℕ
gcd_along d [] = d
gcd_along d (e ∷ es) = gcd_along (gcd d (nat_abs e)) es

-- it divides d
pub gcd_along-start : (d : ℕ) (es : List ℤ) → gcd_along d es ∣ d
gcd_along-start d [] = dvd_refl d
gcd_along-start d (e ∷ es) = dvd_trans (gcd_along (gcd d (nat_abs e)) es) (gcd_along-start (gcd d (nat_abs e)) es) (gcd-dvd_left d (nat_abs e))

-- and each entry
pub gcd_along-each : (d : ℕ) (es : List ℤ) → All (λ e. gcd_along d es ∣ nat_abs e) es
gcd_along-each d [] = All-nil (λ e. d ∣ nat_abs e)
gcd_along-each d (e ∷ es) =
    let k = gcd_along (gcd d (nat_abs e)) es in
    All-cons (λ e. k ∣ nat_abs e) e es (dvd_trans k (gcd_along-start (gcd d (nat_abs e)) es) (gcd-dvd_right d (nat_abs e))) (gcd_along-each (gcd d (nat_abs e)) es)

-- and each common divisor divides it
pub dvd-gcd_along : (k d : ℕ) (es : List ℤ) → k ∣ d → All (λ e. k ∣ nat_abs e) es → k ∣ gcd_along d es
dvd-gcd_along k d [] h all = h
dvd-gcd_along k d (e ∷ es) h all = dvd-gcd_along k (gcd d (nat_abs e)) es (dvd-gcd k d (nat_abs e) h (All-head (λ e. k ∣ nat_abs e) e es all)) (All-tail (λ e. k ∣ nat_abs e) e es all)

-- the step of a loop
pub gcd_along-step : (d r u : ℕ) (e : ℤ) (es : List ℤ) → u ≡ nat_abs e → IsGcd d u r → gcd_along r es ≡ gcd_along d (e ∷ es)
gcd_along-step d r u e es f h = ap (λ r. gcd_along r es) (sym (gcd_is d u r h) ∙ ap (gcd d) f)

-- a greatest common divisor is no greater than a bound on both
pub gcd_le : (a b r m : ℕ) → IsGcd a b r → a ≤ m → b ≤ m → r ≤ m
gcd_le a (suc b) r m h la lb = let l : r ≤ suc b = le_of_dvd (omega arith) h.1 in omega arith
gcd_le (suc a) zero r m h la lb = let l : r ≤ suc a = le_of_dvd (omega arith) h.0 in omega arith
gcd_le zero zero r m h la lb = let z : 0 ∣ r = h.2 0 (dvd_refl 0) (dvd_refl 0) in let e : 0 * (r / 0) ≡ r = mul-div_cancel' 0 z in omega arith

zero_only : (n : ℕ) → 0 ∣ n → n ≡ 0
zero_only n z = let e : 0 * (n / 0) ≡ n = mul-div_cancel' 0 z in omega arith

all_zero : (es : List ℤ) → All (λ e. 0 ∣ nat_abs e) es → total (λ w. w) es ≡ pos 0
all_zero [] h = refl
all_zero (e ∷ es) h =
    let first : nat_abs e ≡ 0 = zero_only (nat_abs e) (All-head (λ e. 0 ∣ nat_abs e) e es h) in
    let rest : total (λ w. w) es ≡ pos 0 = all_zero es (All-tail (λ e. 0 ∣ nat_abs e) e es h) in
    omega (arith, ints)

-- numbers whose sum is above 0 have a common divisor above 0
pub divisor_positive : (k : ℕ) (es : List ℤ) → All (λ e. k ∣ nat_abs e) es → pos 0 <ℤ total (λ w. w) es → 1 ≤ k
divisor_positive zero es h p = let z : total (λ w. w) es ≡ pos 0 = all_zero es h in absurd (omega (arith, ints))
divisor_positive (suc k) es h p = omega arith

-- a divisor of each part, times the factor, divides each number
times_parts : (k j : ℕ) (ws : List ℤ) → All (λ e. j ∣ nat_abs e) ws → All (λ e. k * j ∣ nat_abs e) (scaled (pos k) ws)
times_parts k j [] h = All-nil (λ e. k * j ∣ nat_abs e)
times_parts k j (w ∷ ws) h =
    All-cons (λ e. k * j ∣ nat_abs e) (pos k *ℤ w) (scaled (pos k) ws)
    (subst (λ n. k * j ∣ n) (sym (unsigned_abs-mul (pos k) w)) (mul-dvd-mul_left j k (All-head (λ e. j ∣ nat_abs e) w ws h)))
    (times_parts k j ws (All-tail (λ e. j ∣ nat_abs e) w ws h))

-- numbers that are the parts times their greatest common divisor
pub reduces_by : (whole parts : List ℤ) (k : ℕ) → k ≡ gcd_along 0 whole → 1 ≤ k → scaled (pos k) parts ≡ whole → Reduces whole parts
reduces_by whole parts k is p e = record {
  factor = k;
  positive = p;
  scaled = e;
  no_factor = λ j h.
      let divides : k * j ∣ gcd_along 0 whole = dvd-gcd_along (k * j) 0 whole (dvd-zero (k * j)) (subst (All (λ e. k * j ∣ nat_abs e)) e (times_parts k j parts h)) in
      let one : gcd_along 0 whole ≡ k * 1 = sym is ∙ omega arith in
      eq-one_of_dvd-one (dvd_of_mul-dvd-mul_left j p (subst (λ n. k * j ∣ n) one divides));
}

-- Euclid's laws with halves: a number without its factors of 2, and the greatest common divisor of odd numbers.
use Prim.Native.Nat.{◌∣◌}
use Rattle.std.proofs.Common.{◌≡◌, refl, sym, ◌∙◌, ap, ap₂, subst, ℕ, zero, suc, ◌+◌, ◌-◌, ◌*◌, ◌/◌, ◌%◌, ◌^◌, ◌<◌, ◌≤◌, min, max, arith, mul_comm, inl, inr}
use Rattle.std.specs.Int.{IsGcd, trailing_zeros, bit_at}
use Rattle.std.proofs.Math.Nat.{dvd_refl, dvd_trans, dvd-mul_left, mul-div_cancel', pow-succ', le_of_dvd, mod-eq_of_lt, min-eq_left, min-eq_right, max-eq_left, max-eq_right, lt_of_le_of_lt}
use Rattle.std.proofs.lemmas.Nat.{shr_split, mod-pow-add, pow-add}
use Rattle.std.proofs.lemmas.Nat.Bits.{bit_at-trailing_zeros}
use Rattle.std.proofs.lemmas.Nat.Gcd.{IsGcd-from_mod, IsGcd-from_zero, IsGcd-from_sub, IsGcd-swap}
use Rattle.std.proofs.lemmas.Bool.{cases_lt}
use mir.Syntax.{Width}
use mir.Val.{bits}
use Rattle.integers.proofs.Divisors.{dvd_of_dvd-mul, IsGcd-mul}

-- ---- a number without its factors of 2

-- where the k lowest digits of n are 0, so is the rest of n by 2 ^ k
rest_is_zero : (n k : ℕ) → ((i : ℕ) → i < k → bit_at n i ≡ 0) → n % 2 ^ k ≡ 0
rest_is_zero n zero h = omega arith
rest_is_zero n (suc k) h =
    let lower : n % 2 ^ k ≡ 0 = rest_is_zero n k (λ i l. h i (omega arith)) in
    let one_more : suc k ≡ 1 + k = omega arith in
    ap (λ e. n % 2 ^ e) one_more ∙ mod-pow-add n 1 k ∙ ap₂ (λ u v. u * 2 ^ k + v) (h k (omega arith)) lower ∙ omega arith

-- n is 2 ^ k times its odd part, where k counts its trailing zeros
pub odd_part_is : (w : Width) (n : ℕ) → 0 < n → n < 2 ^ bits w → 2 ^ trailing_zeros w n * (n / 2 ^ trailing_zeros w n) ≡ n
odd_part_is w n h l = whole (2 ^ trailing_zeros w n) (shr_split n (trailing_zeros w n)) (rest_is_zero n (trailing_zeros w n) (bit_at-trailing_zeros w n h l).2)
  where
    whole : (p : ℕ) → n / p * p + n % p ≡ n → n % p ≡ 0 → p * (n / p) ≡ n
    whole p e z = omega arith

-- and that part is odd
pub odd_part_odd : (w : Width) (n : ℕ) → 0 < n → n < 2 ^ bits w → n / 2 ^ trailing_zeros w n % 2 ≡ 1
odd_part_odd w n h l = (bit_at-trailing_zeros w n h l).1

-- ---- odd numbers

odd_apart_from_two : (d : ℕ) → d % 2 ≡ 1 → IsGcd d 2 1
odd_apart_from_two d h =
    IsGcd-from_mod d 2 1 (subst (λ r. IsGcd 2 r 1) (sym h) (IsGcd-from_mod 2 1 1 (IsGcd-from_zero 1 0 refl)))

-- an odd number that divides m times a power of 2 divides m
dvd_without_twos : (k d m : ℕ) → d % 2 ≡ 1 → d ∣ 2 ^ k * m → d ∣ m
dvd_without_twos zero d m o h = let one : 1 * m ≡ m = omega arith in subst (λ n. d ∣ n) one h
dvd_without_twos (suc k) d m o h =
    let regroup : 2 ^ suc k * m ≡ 2 * (2 ^ k * m) = ap (λ p. p * m) (pow-succ' 2 k) ∙ omega arith in
    dvd_without_twos k d m o (dvd_of_dvd-mul d 2 (2 ^ k * m) (odd_apart_from_two d o) (subst (λ n. d ∣ n) regroup h))

odd_factor : (d q x : ℕ) → d * q ≡ x → x % 2 ≡ 1 → d % 2 ≡ 1
odd_factor d q x e o = cases (d % 2) refl
  where
    cases : (r : ℕ) → d % 2 ≡ r → r ≡ 1
    cases zero z =
        let half : d ≡ 2 * (d / 2) = omega arith in
        let even : x ≡ 2 * (d / 2 * q) = sym e ∙ ap (λ d. d * q) half ∙ omega arith in
        absurd (omega arith)
    cases (suc r) z = omega arith

-- a divisor of an odd number is odd
odd_of_dvd : (d x : ℕ) → d ∣ x → x % 2 ≡ 1 → d % 2 ≡ 1
odd_of_dvd d x h o = odd_factor d (x / d) x (mul-div_cancel' d h) o

-- factors of 2 on one side do not change the greatest common divisor of an odd number
pub IsGcd-more_twos : (k x y g : ℕ) → x % 2 ≡ 1 → IsGcd x y g → IsGcd x (2 ^ k * y) g
IsGcd-more_twos k x y g o h =
    (h.0, dvd_trans g h.1 (dvd-mul_left y (2 ^ k)), λ d l m. h.2 d l (dvd_without_twos k d y (odd_of_dvd d x l o) m))

-- in order or not, two numbers have one greatest common divisor
pub IsGcd-min_max : (x y g : ℕ) → IsGcd (min x y) (max x y) g → IsGcd x y g
IsGcd-min_max x y g h = elim (cases_lt x y) [
  | inl l ↦ let le : x ≤ y = omega arith in subst (λ m. IsGcd m y g) (min-eq_left le) (subst (λ m. IsGcd (min x y) m g) (max-eq_right le) h)
  | inr l ↦ IsGcd-swap y x g (subst (λ m. IsGcd m x g) (min-eq_right l) (subst (λ m. IsGcd (min x y) m g) (max-eq_left l) h))
]

-- one step: the smaller of two odd numbers, and their difference without its factors of 2
pub IsGcd-from_difference : (x y p k g : ℕ) → x % 2 ≡ 1 → y % 2 ≡ 1 → 2 ^ k * p ≡ max x y - min x y → IsGcd (min x y) p g → IsGcd x y g
IsGcd-from_difference x y p k g o q e h =
    let least_odd : min x y % 2 ≡ 1 = omega arith in
    let ordered : min x y ≤ max x y = omega arith in
    let part : IsGcd (min x y) (max x y - min x y) g = subst (λ d. IsGcd (min x y) d g) e (IsGcd-more_twos k (min x y) p g least_odd h) in
    IsGcd-min_max x y g (IsGcd-swap (max x y) (min x y) g (IsGcd-from_sub (max x y) (min x y) g ordered (IsGcd-swap (min x y) (max x y - min x y) g part)))

-- ---- even numbers

fewer_first : (i j p q g : ℕ) → p % 2 ≡ 1 → i ≤ j → IsGcd p q g → IsGcd (2 ^ i * p) (2 ^ j * q) (2 ^ i * g)
fewer_first i j p q g o l h =
    let sum : j ≡ i + (j - i) = omega arith in
    let regroup : 2 ^ i * (2 ^ (j - i) * q) ≡ 2 ^ j * q = sym (ap (λ e. 2 ^ e * q) sum ∙ ap (λ e. e * q) (pow-add 2 i (j - i)) ∙ omega arith) in
    subst (λ n. IsGcd (2 ^ i * p) n (2 ^ i * g)) regroup (IsGcd-mul (2 ^ i) p (2 ^ (j - i) * q) g (IsGcd-more_twos (j - i) p q g o h))

-- the factors of 2 that both numbers have, times the greatest common divisor of their odd parts
pub IsGcd-twos : (i j p q g : ℕ) → p % 2 ≡ 1 → q % 2 ≡ 1 → IsGcd p q g → IsGcd (2 ^ i * p) (2 ^ j * q) (2 ^ min i j * g)
IsGcd-twos i j p q g o r h = elim (cases_lt i j) [
  | inl l ↦ let le : i ≤ j = omega arith in subst (λ m. IsGcd (2 ^ i * p) (2 ^ j * q) (2 ^ m * g)) (sym (min-eq_left le)) (fewer_first i j p q g o le h)
  | inr l ↦ subst (λ m. IsGcd (2 ^ i * p) (2 ^ j * q) (2 ^ m * g)) (sym (min-eq_right l)) (IsGcd-swap (2 ^ j * q) (2 ^ i * p) (2 ^ j * g) (fewer_first j i q p g r l (IsGcd-swap p q g h)))
]

shifted : (g t b m : ℕ) → 0 < b → b < m → 2 ^ t * g ∣ b → g * 2 ^ t % m ≡ 2 ^ t * g
shifted g t b m some below d =
    let most : 2 ^ t * g ≤ b = le_of_dvd some d in
    ap (λ n. n % m) (mul_comm g (2 ^ t)) ∙ mod-eq_of_lt (lt_of_le_of_lt most below)

-- the greatest common divisor by the odd parts of b and of the rest of a by b, where the factors of 2 are put back by a shift within m
pub IsGcd-from_odd_parts : (a b i j t p q g m : ℕ) → 0 < b → b < m → p % 2 ≡ 1 → q % 2 ≡ 1 → 2 ^ i * p ≡ a % b → 2 ^ j * q ≡ b → t ≡ min i j → IsGcd p q g → IsGcd a b (g * 2 ^ t % m)
IsGcd-from_odd_parts a b i j t p q g m some below o r e f s h =
    let parts : IsGcd (a % b) b (2 ^ min i j * g) = subst (λ n. IsGcd n b (2 ^ min i j * g)) e (subst (λ n. IsGcd (2 ^ i * p) n (2 ^ min i j * g)) f (IsGcd-twos i j p q g o r h)) in
    let shared : IsGcd (a % b) b (2 ^ t * g) = subst (λ k. IsGcd (a % b) b (2 ^ k * g)) (sym s) parts in
    let whole : IsGcd a b (2 ^ t * g) = IsGcd-from_mod a b (2 ^ t * g) (IsGcd-swap (a % b) b (2 ^ t * g) shared) in
    subst (λ v. IsGcd a b v) (sym (shifted g t b m some below whole.1)) whole

-- equal numbers are their own greatest common divisor
pub IsGcd-same : (x y : ℕ) → x ≡ y → IsGcd x y x
IsGcd-same x y e = subst (λ y. IsGcd x y x) e (dvd_refl x, dvd_refl x, λ d l m. l)

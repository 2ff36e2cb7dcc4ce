-- Numbers divided by their greatest common divisor: fractions and places in lowest terms.
use Prim.Native.Nat.{◌∣◌}
use Rattle.std.proofs.Common.{◌≡◌, sym, ◌∙◌, ap, ap₂, subst, ℕ, ◌*◌, ◌/◌, ◌^◌, ◌<◌, ◌≤◌, ℤ, pos, ◌*ℤ◌, ◌≤ℤ◌, ◌<ℤ◌, nat_abs, arith, List, [], ◌∷◌, map, mul-le-mul, le_trans}
use Rattle.std.specs.Int.{IsGcd}
use Rattle.std.proofs.lemmas.Int.{ints, unsigned_abs-mul}
use Rattle.std.proofs.lemmas.List.Elements.{All-nil, All-cons, All-head, All-tail}
use Rattle.std.proofs.Math.Nat.{eq_of_mul-eq-mul_left, div-le_self, dvd_refl, dvd_trans, le_of_dvd}
use Rattle.integers.specs.Size.{Size}
use Rattle.integers.specs.LowestTerms.{IsLowestTerms}
use Rattle.integers.proofs.Identities.{den-ring, read, polys}
use Rattle.integers.proofs.Order.{lt_of_mul_lt}
use Rattle.integers.proofs.Sizes.{size_between, below_size, above_size}
use Rattle.integers.proofs.Divisors.{gcd, gcd_is, gcd-dvd_left, gcd-dvd_right, one_from_IsGcd, gcd_all, gcd_all-scale, one_from_gcd_all}
use Rattle.integers.proofs.LowestTerms.{IsLowestTerms-div, lowest_value}
use Rattle.bounds_model.specs.Fractions.{SameValue, HaveNoCommonFactor}
use Rattle.bounds_model.specs.Ranges.{IsFraction, IsNumber, IsPlaneRatio, IsSpaceRatio}
use Rattle.bounds_model.specs.Space.{SamePlace}
use Rattle.exact_fractions.specs.Divisors.{IsDivisorOf}
use Rattle.exact_fractions.proofs.Quotients.{divisor_positive}

-- ---- fractions

pub no_common_factor : (n d : ℕ) → IsGcd n d 1 → HaveNoCommonFactor (pos n ∷ pos d ∷ [])
no_common_factor n d h k all =
    one_from_IsGcd n d h k (All-head (λ e. k ∣ nat_abs e) (pos n) (pos d ∷ []) all) (All-head (λ e. k ∣ nat_abs e) (pos d) [] (All-tail (λ e. k ∣ nat_abs e) (pos n) (pos d ∷ []) all))

pub is_number : (n : ℕ) → n ≤ 2 ^ 126 → IsNumber (pos n)
is_number n h = record { low = omega (arith, ints); high = omega (arith, ints) }

pub quotient_le : (n g : ℕ) → n ≤ 2 ^ 126 → n / g ≤ 2 ^ 126
quotient_le n g h = le_trans (div-le_self n g) h

-- divided by their greatest common divisor, the numbers of a fraction are in lowest terms
pub IsFraction-div : (n d g : ℕ) → 0 < d → n ≤ 2 ^ 126 → d ≤ 2 ^ 126 → IsGcd n d g → IsFraction (record { n = pos (n / g); d = pos (d / g) })
IsFraction-div n d g p hn hd h =
    let lowest : IsLowestTerms (n / g) (d / g) = IsLowestTerms-div n d g p h in
    record {
      numerator = is_number (n / g) (quotient_le n g hn);
      denominator = is_number (d / g) (quotient_le d g hd);
      lowest = record {
        not_negative = record { numerator = omega (arith, ints); denominator = let q = lowest.denominator in omega (arith, ints) };
        lowest = no_common_factor (n / g) (d / g) lowest.common_factor;
      };
    }

-- and keep the value
pub SameValue-div : (n d g : ℕ) → IsGcd n d g → SameValue (record { n = pos (n / g); d = pos (d / g) }) (record { n = pos n; d = pos d })
SameValue-div n d g h = ap (λ v. pos v) (lowest_value n d g h)

-- ---- places

-- entries that are k times others, with the greatest common divisor k: the others have no common factor
pub no_factor_left : (k : ℕ) (es : List ℤ) → 0 < k → gcd_all (map (λ e. pos k *ℤ e) es) ≡ k → HaveNoCommonFactor es
no_factor_left k es p e =
    let scaled : k * gcd_all es ≡ k * 1 = sym (gcd_all-scale (pos k) es) ∙ e ∙ omega arith in
    one_from_gcd_all es (eq_of_mul-eq-mul_left k p (gcd_all es) 1 scaled)

-- a quotient is no greater than the number
pub IsNumber-quotient : (k : ℕ) (q n : ℤ) → 0 < k → pos k *ℤ q ≡ n → IsNumber n → IsNumber q
IsNumber-quotient k q n p e h =
    let whole : k * nat_abs q ≡ nat_abs n = sym (unsigned_abs-mul (pos k) q) ∙ ap nat_abs e in
    let size : Size (2 ^ 126) n = size_between h.low h.high in
    let less : 1 * nat_abs q ≤ k * nat_abs q = mul-le-mul (omega arith) (omega arith) in
    let part : Size (2 ^ 126) q = record { abs = let s = size.abs in omega arith } in
    record { low = above_size part; high = below_size part }

-- a quotient of a number of at least 1 is at least 1
pub positive_quotient : (k : ℕ) (q n : ℤ) → 0 < k → pos k *ℤ q ≡ n → pos 1 ≤ℤ n → pos 1 ≤ℤ q
positive_quotient k q n p e h =
    let above : (pos k *ℤ pos 0) <ℤ (pos k *ℤ q) = omega (arith, ints) in
    let some : pos 0 <ℤ q = lt_of_mul_lt (pos k) (omega (arith, ints)) above in
    omega (arith, ints)

-- numbers over one factor keep their ratio
pub same_ratio : (k a b x w : ℤ) → k *ℤ a ≡ x → k *ℤ b ≡ w → a *ℤ w ≡ x *ℤ b
same_ratio k a b x w e f = ap (λ w. a *ℤ w) (sym f) ∙ regroup ∙ ap (λ x. x *ℤ b) e
  where
    regroup : a *ℤ (k *ℤ b) ≡ k *ℤ a *ℤ b
    regroup = read (k ∷ a ∷ b ∷ []) (λ xs p q r. simp (p, q, r, polys) (den-ring xs _ _ tt))

-- the greatest common divisor of entries divides the first
pub dvd-first : (k : ℕ) (e : ℤ) (es : List ℤ) → k ∣ gcd_all (e ∷ es) → k ∣ nat_abs e
dvd-first k e es h = dvd_trans k h (gcd-dvd_left (nat_abs e) (gcd_all es))

-- and that of the rest
pub dvd-rest : (k : ℕ) (e : ℤ) (es : List ℤ) → k ∣ gcd_all (e ∷ es) → k ∣ gcd_all es
dvd-rest k e es h = dvd_trans k h (gcd-dvd_right (nat_abs e) (gcd_all es))

-- a divisor of an entry and of the denominator
pub divides_entry : (k : ℕ) (w n : ℤ) → pos 1 ≤ℤ w → IsNumber w → k ∣ nat_abs w → k ∣ nat_abs n → IsDivisorOf k n
divides_entry k w n some limit h l =
    let positive : 0 < nat_abs w = omega (arith, ints) in
    let most : k ≤ nat_abs w = le_of_dvd positive h in
    let high : w ≤ℤ pos (2 ^ 126) = limit.high in
    record { positive = divisor_positive k (nat_abs w) h positive; limited = omega (arith, ints); divides = l }

gcd_of_two : (y w : ℤ) (b c d : ℕ) → b ≡ nat_abs y → c ≡ nat_abs w → IsGcd b c d → gcd_all (y ∷ w ∷ []) ≡ d
gcd_of_two y w b c d eb ec h = ap₂ gcd (sym eb) (sym ec) ∙ gcd_is b c d h

-- the divisor that two calls find of three numbers
pub gcd_of_three : (x y w : ℤ) (a b c d k : ℕ) → a ≡ nat_abs x → b ≡ nat_abs y → c ≡ nat_abs w → IsGcd b c d → IsGcd a d k → gcd_all (x ∷ y ∷ w ∷ []) ≡ k
gcd_of_three x y w a b c d k ea eb ec hd hk = ap (λ n. gcd n (gcd_all (y ∷ w ∷ []))) (sym ea) ∙ ap (λ n. gcd a n) (gcd_of_two y w b c d eb ec hd) ∙ gcd_is a d k hk

-- three numbers, each the divisor times a quotient: the quotients are the place in lowest terms
pub IsPlaneRatio-div : (k : ℕ) (x y w a b c : ℤ) → 0 < k → gcd_all (x ∷ y ∷ w ∷ []) ≡ k → IsNumber x → IsNumber y → IsNumber w → pos 1 ≤ℤ w → pos k *ℤ a ≡ x → pos k *ℤ b ≡ y → pos k *ℤ c ≡ w → IsPlaneRatio (record { x = a; y = b; w = c })
IsPlaneRatio-div k x y w a b c p e hx hy hw some ea eb ec = record {
  x = IsNumber-quotient k a x p ea hx;
  y = IsNumber-quotient k b y p eb hy;
  w = IsNumber-quotient k c w p ec hw;
  denominator = positive_quotient k c w p ec some;
  lowest = no_factor_left k (a ∷ b ∷ c ∷ []) p (ap₂ (λ x s. gcd_all (x ∷ s)) ea (ap₂ (λ y w. y ∷ w ∷ []) eb ec) ∙ e);
}

-- and they name the same place
pub SamePlace-div : (k : ℕ) (x y z w a b c d : ℤ) → pos k *ℤ a ≡ x → pos k *ℤ b ≡ y → pos k *ℤ c ≡ z → pos k *ℤ d ≡ w → SamePlace (record { x = a; y = b; z = c; w = d }) (record { x = x; y = y; z = z; w = w })
SamePlace-div k x y z w a b c d ea eb ec ed = record { in_x = same_ratio (pos k) a d x w ea ed; in_y = same_ratio (pos k) b d y w eb ed; in_z = same_ratio (pos k) c d z w ec ed }

-- the same of four numbers
pub gcd_of_four : (x y z w : ℤ) (a b c d e f k : ℕ) → a ≡ nat_abs x → b ≡ nat_abs y → c ≡ nat_abs z → d ≡ nat_abs w → IsGcd c d e → IsGcd b e f → IsGcd a f k → gcd_all (x ∷ y ∷ z ∷ w ∷ []) ≡ k
gcd_of_four x y z w a b c d e f k ea eb ec ed he hf hk = ap (λ n. gcd n (gcd_all (y ∷ z ∷ w ∷ []))) (sym ea) ∙ ap (λ n. gcd a n) (gcd_of_three y z w b c d e f eb ec ed he hf) ∙ gcd_is a f k hk

-- in space
pub IsSpaceRatio-div : (k : ℕ) (x y z w a b c d : ℤ) → 0 < k → gcd_all (x ∷ y ∷ z ∷ w ∷ []) ≡ k → IsNumber x → IsNumber y → IsNumber z → IsNumber w → pos 1 ≤ℤ w → pos k *ℤ a ≡ x → pos k *ℤ b ≡ y → pos k *ℤ c ≡ z → pos k *ℤ d ≡ w → IsSpaceRatio (record { x = a; y = b; z = c; w = d })
IsSpaceRatio-div k x y z w a b c d p e hx hy hz hw some ea eb ec ed = record {
  x = IsNumber-quotient k a x p ea hx;
  y = IsNumber-quotient k b y p eb hy;
  z = IsNumber-quotient k c z p ec hz;
  w = IsNumber-quotient k d w p ed hw;
  denominator = positive_quotient k d w p ed some;
  lowest = no_factor_left k (a ∷ b ∷ c ∷ d ∷ []) p (ap₂ (λ x s. gcd_all (x ∷ s)) ea (ap₂ (λ y s. y ∷ s) eb (ap₂ (λ z w. z ∷ w ∷ []) ec ed)) ∙ e);
}

-- 0 times a number is 0
pub zero_scaled : (k : ℕ) → pos k *ℤ pos 0 ≡ pos 0
zero_scaled k = omega (arith, ints)

-- ---- numbers in lowest terms are kept

-- a quotient by 1 is the number
pub quotient_by_one : (k : ℕ) (q n : ℤ) → k ≡ 1 → pos k *ℤ q ≡ n → q ≡ n
quotient_by_one k q n one is =
    let once : q ≡ pos 1 *ℤ q = omega (arith, ints) in
    once ∙ ap (λ j. pos j *ℤ q) (sym one) ∙ is

-- the greatest common divisor of the numbers of a fraction in lowest terms is 1
pub IsGcd-lowest : (n d g : ℕ) → IsGcd n d g → HaveNoCommonFactor (pos n ∷ pos d ∷ []) → g ≡ 1
IsGcd-lowest n d g h lowest = lowest g (All-cons (λ e. g ∣ nat_abs e) (pos n) (pos d ∷ []) h.0 (All-cons (λ e. g ∣ nat_abs e) (pos d) [] h.1 (All-nil (λ e. g ∣ nat_abs e))))

-- the greatest common divisor of four numbers divides each
pub record DividesFour (k : ℕ) (x y z w : ℤ) : Type 0 where
  pub first : IsDivisorOf k x
  pub second : IsDivisorOf k y
  pub third : IsDivisorOf k z
  pub fourth : IsDivisorOf k w

-- the last of them is at least 1
pub divides_four : (k : ℕ) (x y z w : ℤ) → pos 1 ≤ℤ w → IsNumber w → gcd_all (x ∷ y ∷ z ∷ w ∷ []) ≡ k → DividesFour k x y z w
divides_four k x y z w some limit whole =
    let from_x : k ∣ gcd_all (x ∷ y ∷ z ∷ w ∷ []) = subst (λ n. k ∣ n) (sym whole) (dvd_refl k) in
    let from_y : k ∣ gcd_all (y ∷ z ∷ w ∷ []) = dvd-rest k x (y ∷ z ∷ w ∷ []) from_x in
    let from_z : k ∣ gcd_all (z ∷ w ∷ []) = dvd-rest k y (z ∷ w ∷ []) from_y in
    let last : k ∣ nat_abs w = dvd-first k w [] (dvd-rest k z (w ∷ []) from_z) in
    record {
      first = divides_entry k w x some limit last (dvd-first k x (y ∷ z ∷ w ∷ []) from_x);
      second = divides_entry k w y some limit last (dvd-first k y (z ∷ w ∷ []) from_y);
      third = divides_entry k w z some limit last (dvd-first k z (w ∷ []) from_z);
      fourth = divides_entry k w w some limit last last;
    }

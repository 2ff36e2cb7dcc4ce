-- Bounds on absolute values, and from them that a number fits 32, 64 or 128 bits. A bound is a numeral, and `tt` decides that it is small enough.
--
-- `size_fits (size_mul h k) tt` proves that a product fits 128 bits, where h and k bound its factors. For a whole expression of code
-- MachineArithmetic is shorter.
use Rattle.std.proofs.Common.{◌≡◌, subst, ◌⊎◌, inl, inr, ℕ, ◌+◌, ◌*◌, ◌≤◌, ◌^◌, ℤ, pos, ◌+ℤ◌, ◌-ℤ◌, ◌*ℤ◌, neg_ℤ, ◌≤ℤ◌, FitsSigned, to_z, of_z, to_z-of_z, arith, mul-le-mul, w64, T, ltb, ltb→lt, leb, leb→le, le_refl, le_trans}
use Rattle.std.proofs.lemmas.Int.{ints, unsigned_abs-mul, fits_signed_from_abs}
use mir.Syntax.{Width, w128}
use mir.Val.{hbits}
use Rattle.integers.specs.Size.{Size}

-- ---- of an expression

-- a sum is at most the sum of the bounds
pub size_add : {a b : ℤ} {m n : ℕ} → Size m a → Size n b → Size (m + n) (a +ℤ b)
size_add h k = record { abs = omega (arith, ints) }

-- and so is a difference
pub size_sub : {a b : ℤ} {m n : ℕ} → Size m a → Size n b → Size (m + n) (a -ℤ b)
size_sub h k = record { abs = omega (arith, ints) }

-- a negative has its number's bound
pub size_neg : {a : ℤ} {m : ℕ} → Size m a → Size m (neg_ℤ a)
size_neg h = record { abs = omega (arith, ints) }

-- a product is at most the product of the bounds
pub size_mul : {a b : ℤ} {m n : ℕ} → Size m a → Size n b → Size (m * n) (a *ℤ b)
size_mul {a} {b} h k = record { abs = omega (arith, unsigned_abs-mul a b, mul-le-mul h.abs k.abs) }

-- a greater bound: `size_more h tt`
pub size_more : {a : ℤ} {m n : ℕ} → Size m a → T (leb m n) → Size n a
size_more {a} {m} {n} h t = record { abs = le_trans h.abs (leb→le m n t) }

-- ---- of an input

-- a number between -n and n
pub size_between : {a : ℤ} {n : ℕ} → neg_ℤ (pos n) ≤ℤ a → a ≤ℤ pos n → Size n a
size_between h k = record { abs = omega (arith, ints) }

-- and back
pub below_size : {a : ℤ} {n : ℕ} → Size n a → a ≤ℤ pos n
below_size h = let l = h.abs in omega (arith, ints)

-- a bound from below
pub above_size : {a : ℤ} {n : ℕ} → Size n a → neg_ℤ (pos n) ≤ℤ a
above_size h = let l = h.abs in omega (arith, ints)

-- an unsigned number that is read as a signed one
pub size_unsigned : (n : ℕ) {m : ℕ} → n ≤ m → Size m (pos n)
size_unsigned n h = record { abs = omega arith }

-- a flag, which is 0 or 1
pub size_of_flag : {a : ℤ} → (a ≡ pos 0) ⊎ (a ≡ pos 1) → Size 1 a
size_of_flag (inl e) = record { abs = omega (arith, ints) }
size_of_flag (inr e) = record { abs = omega (arith, ints) }

-- a weighted sum with one number more: t is the sum of the weights so far, r bounds each number
pub size_more_weight : (t w r : ℕ) {a x : ℤ} → Size (t * r) a → Size r x → Size ((t + w) * r) (a +ℤ pos w *ℤ x)
size_more_weight t w r {a} {x} h k = subst (λ n. Size n (a +ℤ pos w *ℤ x)) (distributes t w r) (size_add h (size_mul (size_unsigned w (le_refl w)) k))
  where
    distributes : (t w r : ℕ) → t * r + w * r ≡ (t + w) * r
    distributes t w r = omega arith

-- ---- that it fits

-- any width: `size_fits_in w h tt`, where the bound of h is a numeral below 2 ^ hbits w
pub size_fits_in : (w : Width) {a : ℤ} {n : ℕ} → Size n a → T (ltb n (2 ^ hbits w)) → FitsSigned w a
size_fits_in w {a} {n} h t = let below = ltb→lt n (2 ^ hbits w) t in fits_signed_from_abs w a (omega (arith, h.abs))

-- 128 bits: `size_fits h tt`
pub size_fits : {a : ℤ} {n : ℕ} → Size n a → T (ltb n (2 ^ 127)) → FitsSigned w128 a
size_fits h t = size_fits_in w128 h t

-- 64 bits
pub size_fits64 : {a : ℤ} {n : ℕ} → Size n a → T (ltb n (2 ^ 63)) → FitsSigned w64 a
size_fits64 h t = size_fits_in w64 h t

-- ---- a number that went to its bits and back

-- it is the same number, at any width
pub wrap_is_in : (w : Width) {a : ℤ} {n : ℕ} → Size n a → T (ltb n (2 ^ hbits w)) → to_z w (of_z w a) ≡ a
wrap_is_in w h t = to_z-of_z (size_fits_in w h t)

-- at 128 bits
pub wrap_is : {a : ℤ} {n : ℕ} → Size n a → T (ltb n (2 ^ 127)) → to_z w128 (of_z w128 a) ≡ a
wrap_is h t = wrap_is_in w128 h t

-- so its bound stays
pub size_wrap : {a : ℤ} {n : ℕ} → Size n a → T (ltb n (2 ^ 127)) → Size n (to_z w128 (of_z w128 a))
size_wrap {a} {n} h t = record { abs = rw (to_z-of_z (size_fits h t)) h.abs }

-- Magnitudes of whole numbers.
use Rattle.std.proofs.Common.{◌≡◌, refl, ℤ, pos, negsuc, nat_abs, neg_ℤ, ◌≤ℤ◌, arith}
use Rattle.std.proofs.lemmas.Int.{ints}

-- a magnitude is the number, or its negative
pub by_magnitude : (z : ℤ) (P : ℤ → Type 0) → P z → P (neg_ℤ z) → P (pos (nat_abs z))
by_magnitude (pos n) P h k = h
by_magnitude (negsuc n) P h k = k

-- the magnitude of a number that is not below 0 is the number
pub magnitude_is : {z : ℤ} → pos 0 ≤ℤ z → pos (nat_abs z) ≡ z
magnitude_is {z = pos n} h = refl
magnitude_is {z = negsuc n} h = absurd h.le

-- a number is at most its magnitude
pub le_magnitude : (z : ℤ) → z ≤ℤ pos (nat_abs z)
le_magnitude (pos k) = omega (arith, ints)
le_magnitude (negsuc k) = omega (arith, ints)

-- and so is its negative
pub neg_le_magnitude : (z : ℤ) → neg_ℤ z ≤ℤ pos (nat_abs z)
neg_le_magnitude (pos k) = omega (arith, ints)
neg_le_magnitude (negsuc k) = omega (arith, ints)

-- Small facts on whole numbers and their order, which the laws of several kinds use.
use Rattle.std.proofs.Common.{◌≡◌, ℤ, pos, ◌*ℤ◌, neg_ℤ, ◌≤ℤ◌, ◌<ℤ◌, arith}
use Rattle.std.proofs.lemmas.Int.{ints, by_lt_z}
use Rattle.integers.proofs.Order.{le_from_lt, nonneg_neg}

-- no number is at most another and above it
pub not_above : {a b : ℤ} {P : Type 0} → a ≤ℤ b → b <ℤ a → P
not_above h k = absurd (omega (arith, ints))

-- once is itself
pub one-times : (z : ℤ) → z ≡ pos 1 *ℤ z
one-times z = omega (arith, ints)

-- a number is not below 0, or its negative is not
pub by_sign : (z : ℤ) {P : Type 0} → (pos 0 ≤ℤ z → P) → (pos 0 ≤ℤ neg_ℤ z → P) → P
by_sign z above below = by_lt_z z (pos 0) (λ h. below (nonneg_neg (le_from_lt h))) above

-- Numbers of any length, brought within the range of machine arithmetic.
use Rattle.std.specs.Prelude.{ℕ, ℤ, pos, negsuc, neg_ℤ, ◌+◌, min}

-- the number, or the first one past the limit where it is greater
abbrev pub clamped_size : ℕ → ℕ → ℕ
clamped_size limit n = min n (limit + 1)

-- the number with its magnitude clamped
abbrev pub clamped : ℕ → ℤ → ℤ
clamped limit (pos n) = pos (clamped_size limit n)
clamped limit (negsuc n) = neg_ℤ (pos (clamped_size limit (n + 1)))

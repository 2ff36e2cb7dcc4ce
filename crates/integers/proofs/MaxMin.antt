-- The greater and the smaller of two numbers.
use Rattle.std.proofs.Common.{◌≡◌, ◌⊎◌, inl, inr, ℤ, ◌≤ℤ◌, arith}
use Rattle.std.specs.Int.{int_max, int_min}
use Rattle.std.proofs.lemmas.Int.{ints, clamps, by_lt_z}

-- the greater of two is at least the first
pub left-le-max : (a b : ℤ) → a ≤ℤ int_max a b
left-le-max a b = omega (arith, ints, clamps)

-- and at least the second
pub right-le-max : (a b : ℤ) → b ≤ℤ int_max a b
right-le-max a b = omega (arith, ints, clamps)

-- the smaller of two is at most the first
pub min-le-left : (a b : ℤ) → int_min a b ≤ℤ a
min-le-left a b = omega (arith, ints, clamps)

-- and at most the second
pub min-le-right : (a b : ℤ) → int_min a b ≤ℤ b
min-le-right a b = omega (arith, ints, clamps)

-- it is one of the two
pub pick_max : (a b : ℤ) → (int_max a b ≡ a) ⊎ (int_max a b ≡ b)
pick_max a b = by_lt_z b a (λ h. inl (omega (arith, ints, clamps))) (λ h. inr (omega (arith, ints, clamps)))

-- and so is the smaller
pub pick_min : (a b : ℤ) → (int_min a b ≡ a) ⊎ (int_min a b ≡ b)
pick_min a b = by_lt_z b a (λ h. inr (omega (arith, ints, clamps))) (λ h. inl (omega (arith, ints, clamps)))

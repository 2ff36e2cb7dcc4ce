-- The order of whole numbers with products.
use Rattle.std.specs.Prelude.{ℤ, pos, ◌*ℤ◌, ◌≤ℤ◌, ◌<ℤ◌}

-- a number whose square is at most that of b, which is at least 0, is at most b
abbrev pub SquaresInOrder : Type 0
SquaresInOrder = (a b : ℤ) → pos 0 ≤ℤ b → (a *ℤ a) ≤ℤ (b *ℤ b) → a ≤ℤ b

-- a factor above 0 on both sides of an order can be left out
abbrev pub FactorCancels : Type 0
FactorCancels = (k a b : ℤ) → pos 0 <ℤ k → (k *ℤ a) ≤ℤ (k *ℤ b) → a ≤ℤ b

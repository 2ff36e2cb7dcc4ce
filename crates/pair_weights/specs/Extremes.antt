-- The greatest and the least of some numbers.
use Rattle.std.specs.Prelude.{◌≡◌, ℕ, ◌^◌, ◌<◌, ℤ, ◌≤ℤ◌}
use Rattle.integers.specs.Size.{Size}
use Rattle.pair_weights.specs.declared.extremes.Extremes.{Extremes}

-- the greatest and the least of f 0 to f (count - 1), and where they are
pub record AreExtremes (f : ℕ → ℤ) (count : ℕ) (e : Extremes) : Type 0 where
  pub far : e.far < count
  pub high : e.high ≡ f e.far
  pub highest : (i : ℕ) → i < count → f i ≤ℤ e.high
  pub near : e.near < count
  pub low : e.low ≡ f e.near
  pub lowest : (i : ℕ) → i < count → e.low ≤ℤ f i
  pub high_size : Size (2 ^ 80) e.high
  pub low_size : Size (2 ^ 80) e.low

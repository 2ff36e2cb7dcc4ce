-- Fractions in lowest terms.
use Rattle.std.specs.Prelude.{ℕ, ◌<◌}
use Rattle.std.specs.Int.{IsGcd}

-- the fraction n / d is in lowest terms: its denominator is above 0, and only 1 divides both numbers
pub record IsLowestTerms (n d : ℕ) : Type 0 where
  pub denominator : 0 < d
  pub common_factor : IsGcd n d 1

-- Divisors of the numbers of an answer.
use Prim.Native.Nat.{◌∣◌}
use Rattle.std.specs.Prelude.{ℕ, ◌<◌, ◌≤◌, ℤ, nat_abs}
use Rattle.bounds_model.specs.Ranges.{number_limit}

-- a divisor above 0 of a number, itself no greater than the numbers of an answer
pub record IsDivisorOf (divisor : ℕ) (n : ℤ) : Type 0 where
  pub positive : 0 < divisor
  pub limited : divisor ≤ number_limit
  pub divides : divisor ∣ nat_abs n

use Rattle.std.proofs.Common.{◌≡◌, ℕ, ◌+◌, ◌%◌}
use Rattle.std.specs.Int.{IsGcd}
use Rattle.exact_fractions.proofs.divisors.gcd_of_odd.Given as goal

-- both numbers are odd, and have the greatest common divisor of the given two
abbrev pub invariant-loop-x : goal.invariant-loop-x
invariant-loop-x l = record { x_odd : l.x % 2 ≡ 1; y_odd : l.y % 2 ≡ 1; same_divisor : (g : ℕ) → IsGcd l.x l.y g → IsGcd l.fn.a l.fn.b g }

abbrev pub decreases-loop-x : goal.decreases-loop-x
decreases-loop-x l = l.x + l.y

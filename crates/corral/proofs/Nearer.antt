-- Each round of the exchange comes nearer to its end.
use Rattle.std.proofs.Common.{ℕ, ◌*◌, ◌<◌, ℤ, ◌≤ℤ◌, ◌<ℤ◌, List, arith}
use Rattle.std.proofs.lemmas.Int.{ints}
use Rattle.bounds_model.specs.Space.{SpacePoint}
use Rattle.bounds_model.specs.Slacks.{WeightedVector, slack, IsLow, value}
use Rattle.exact_fractions.specs.Order.{IsBelow}
use Rattle.kernel_laws.specs.Limits.{difference_limit}
use Rattle.kernel_laws.specs.Solutions.{weight_limit}
use Rattle.corral.specs.declared.search.Balance.{Balance}
use Rattle.corral.specs.Supports.{IsQuadratic}
use Rattle.corral.specs.Rise.{measure}
use Rattle.corral.specs.Balances.{IsBalance}
use Rattle.corral.proofs.Measure.{measure_falls, supports_bounded}

-- a greater value has a smaller measure
pub nearer : (quadratic : ℤ) (dim : ℕ) (old found : List WeightedVector) (a b : Balance) → IsQuadratic quadratic → IsBalance dim quadratic old a → IsBalance dim quadratic found b → IsBelow (value quadratic old) (value quadratic found)
    → measure quadratic (3 * (difference_limit dim * difference_limit dim)) (weight_limit quadratic dim) found < measure quadratic (3 * (difference_limit dim * difference_limit dim)) (weight_limit quadratic dim) old
nearer quadratic dim old found a b flag h k below =
    measure_falls quadratic flag (3 * (difference_limit dim * difference_limit dim)) (weight_limit quadratic dim) old found
    (supports_bounded quadratic dim (weight_limit quadratic dim) old h.supports h.limit h.differences)
    (supports_bounded quadratic dim (weight_limit quadratic dim) found k.supports k.limit k.differences) below

-- where an item of least slack is not low, none is
pub none_lower : (quadratic : ℤ) (items : List WeightedVector) (least_item v : SpacePoint) → slack quadratic items least_item ≤ℤ slack quadratic items v → ¬ IsLow quadratic items least_item → ¬ IsLow quadratic items v
none_lower quadratic items least_item v least not_low low = not_low (λ k d l. below least (low k d l))
  where
    below : {a b c : ℤ} → a ≤ℤ b → b <ℤ c → a <ℤ c
    below h k = omega (arith, ints)

-- The sums that slacks are computed from.
use Rattle.std.specs.Prelude.{◌≡◌, ℕ, ◌*◌, ◌^◌, ℤ, pos, ◌-ℤ◌, ◌*ℤ◌, List, All}
use Rattle.integers.specs.Size.{Size}
use Rattle.bounds_model.specs.Space.{SpacePoint, dot, squared_length}
use Rattle.bounds_model.specs.Slacks.{WeightedVector, mass, moment, slack}
use Rattle.kernel_laws.specs.Vectors.{sum_of}
use Rattle.kernel_laws.specs.Limits.{IsVectorWithin, difference_limit}
use Rattle.kernel_laws.specs.Solutions.{weight_limit}
use Rattle.corral.specs.declared.sums.Moments.{Moments}

-- the sum of the weights, and the weighted sum of the vectors
pub record AreMoments (items : List WeightedVector) (m : Moments) : Type 0 where
  pub mass : m.mass ≡ mass items
  pub sum : sum_of m.sum ≡ moment items

-- the slack of a vector under weighted vectors with these sums
abbrev pub slack_at : ℤ → Moments → SpacePoint → ℤ
slack_at quadratic m v = pos 2 *ℤ dot v (sum_of m.sum) -ℤ quadratic *ℤ (m.mass *ℤ squared_length v)

-- the slack of each of the weighted vectors
abbrev pub IsLevel : ℤ → List WeightedVector → ℤ → Type 0
IsLevel quadratic items level = All (λ item. slack quadratic items item.vector ≡ level) items

-- sums of weights within the limit of the solver, and of vectors within the limit of differences
pub record AreWithin (quadratic : ℤ) (dim : ℕ) (m : Moments) : Type 0 where
  pub mass : Size (weight_limit quadratic dim) m.mass
  pub sum : IsVectorWithin (weight_limit quadratic dim * difference_limit dim) (sum_of m.sum)

-- sums so small that slacks fit 64 bits
pub record AreNarrow (m : Moments) : Type 0 where
  pub mass : Size (2 ^ 20) m.mass
  pub sum : IsVectorWithin (2 ^ 40) (sum_of m.sum)

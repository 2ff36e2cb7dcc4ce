-- What the equation solver answers.
use Rattle.std.specs.Prelude.{◌≡◌, ℕ, zero, suc, ◌+◌, ◌≤◌, ◌^◌, ℤ, pos, negsuc, ◌*ℤ◌, ◌<ℤ◌, List, [], ◌∷◌, All, length, map}
use Rattle.integers.specs.Size.{Size}
use Rattle.integers.specs.Total.{total}
use Rattle.bounds_model.specs.Fractions.{HaveNoCommonFactor}
use Rattle.bounds_model.specs.Space.{SpacePoint, vector}
use Rattle.bounds_model.specs.Slacks.{WeightedVector, AreEqualSlacks}
use Rattle.kernel_laws.specs.Limits.{IsVectorWithin, IsDifference, difference_limit, ball_limit}

-- each vector with its weight
abbrev pub weighted : List ℤ → List SpacePoint → List WeightedVector
weighted [] vectors = []
weighted (w ∷ ws) [] = []
weighted (w ∷ ws) (v ∷ vs) = record { weight = w; vector = v } ∷ weighted ws vs

-- the greatest magnitude of a weight, and of the sum of all weights
abbrev pub weight_limit : ℤ → ℕ → ℕ
weight_limit (pos zero) dim = 2 ^ 66
weight_limit (pos (suc n)) dim = ball_limit dim
weight_limit (negsuc n) dim = 2 ^ 66

-- the vectors that the solver takes
pub record AreItems (quadratic : ℤ) (dim : ℕ) (vectors : List SpacePoint) : Type 0 where
  pub some : 1 ≤ length vectors
  pub few : length vectors ≤ dim + 2
  pub each : All (IsDifference dim) vectors
  pub near : quadratic ≡ pos 1 → All (λ a. All (λ b. IsVectorWithin (difference_limit dim) (vector a b)) vectors) vectors

-- weights in lowest terms, of positive sum, under which all vectors have one slack
pub record IsWeighting (quadratic : ℤ) (limit : ℕ) (vectors : List SpacePoint) (weights : List ℤ) : Type 0 where
  pub as_many : length weights ≡ length vectors
  pub lowest : HaveNoCommonFactor weights
  pub positive : pos 0 <ℤ total (λ w. w) weights
  pub equal : AreEqualSlacks quadratic (weighted weights vectors)
  pub limited : All (Size limit) weights
  pub sum_limited : Size limit (total (λ w. w) weights)

-- numbers, and the same over a common factor, which leaves none
pub record Reduces (whole lowest : List ℤ) : Type 0 where
  pub factor : ℕ
  pub positive : 1 ≤ factor
  pub scaled : map (λ e. pos factor *ℤ e) lowest ≡ whole
  pub no_factor : HaveNoCommonFactor lowest

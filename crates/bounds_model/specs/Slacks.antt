-- Weighted vectors, and the slack of a vector under them: how much room it has in the ball or beyond the plane that the weighted mean sets, up to a term and a
-- factor that are the same for all vectors. For balls `quadratic` is 1, and the vectors are points as seen from one of them; for distances it is 0, and they are differences.
use Rattle.std.specs.Prelude.{◌≡◌, ℤ, pos, ◌-ℤ◌, ◌*ℤ◌, ◌<ℤ◌, List, All, length, zip}
use Rattle.integers.specs.Total.{total}
use Rattle.bounds_model.specs.Space.{SpacePoint, dot, squared_length, weighted_sum, origin}
use Rattle.bounds_model.specs.Fractions.{Fraction}

-- a vector with its weight
pub record WeightedVector : Type 0 where
  pub weight : ℤ
  pub vector : SpacePoint

-- the sum of the weights
abbrev pub mass : List WeightedVector → ℤ
mass items = total (λ item. item.weight) items

-- the weighted sum of the vectors
abbrev pub moment : List WeightedVector → SpacePoint
moment items = weighted_sum (λ item. item.weight) (λ item. item.vector) items

-- the weighted sum of the squared lengths
abbrev pub second_moment : List WeightedVector → ℤ
second_moment items = total (λ item. item.weight *ℤ squared_length item.vector) items

-- the slack of a vector
abbrev pub slack : ℤ → List WeightedVector → SpacePoint → ℤ
slack quadratic items v = pos 2 *ℤ dot v (moment items) -ℤ quadratic *ℤ (mass items *ℤ squared_length v)

-- all items have one slack
abbrev pub AreEqualSlacks : ℤ → List WeightedVector → Type 0
AreEqualSlacks quadratic items = All (λ a. All (λ b. slack quadratic items a.vector ≡ slack quadratic items b.vector) items) items

-- the vector's slack is below that of each item
abbrev pub IsLow : ℤ → List WeightedVector → SpacePoint → Type 0
IsLow quadratic items v = All (λ item. slack quadratic items v <ℤ slack quadratic items item.vector) items

-- the weighted mean of the squared lengths for balls, less the squared length of the weighted mean
abbrev pub value : ℤ → List WeightedVector → Fraction
value quadratic items = record {
  n = quadratic *ℤ (mass items *ℤ second_moment items) -ℤ squared_length (moment items);
  d = mass items *ℤ mass items;
}

-- numbers that are not all 0, with the sum 0 and the weighted sum 0
pub record IsDependence (vectors : List SpacePoint) (numbers : List ℤ) : Type 0 where
  pub as_many : length numbers ≡ length vectors
  pub some : ¬ All (λ number. number ≡ pos 0) numbers
  pub sum : total (λ number. number) numbers ≡ pos 0
  pub weighted : weighted_sum (λ pair. pair.0) (λ pair. pair.1) (zip numbers vectors) ≡ origin

-- the vectors are affinely dependent
abbrev pub AreAffinelyDependent : List SpacePoint → Type 0
AreAffinelyDependent vectors = (numbers : List ℤ) × IsDependence vectors numbers

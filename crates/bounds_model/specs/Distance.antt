-- Weighted means of two sets of points of space, and the distance between them.
use Rattle.std.specs.Prelude.{◌≡◌, ℤ, pos, ◌*ℤ◌, ◌≤ℤ◌, List, length, zip, All}
use Rattle.integers.specs.Total.{total}
use Rattle.bounds_model.specs.Space.{SpacePoint, vector, squared_length, weighted_sum}
use Rattle.bounds_model.specs.Fractions.{Fraction}

-- a weight for each point of the two sets
pub record Weights : Type 0 where
  pub first : List ℤ
  pub second : List ℤ

-- the sum of the points, each times its weight
abbrev pub weighted : List ℤ → List SpacePoint → SpacePoint
weighted weights points = weighted_sum (λ pair. pair.0) (λ pair. pair.1) (zip weights points)

-- weights that are not negative, with one sum for both sets, which is at least 1
pub record FitsDistance (ps qs : List SpacePoint) (weights : Weights) : Type 0 where
  pub for_first : length weights.first ≡ length ps
  pub for_second : length weights.second ≡ length qs
  pub first : All (λ w. pos 0 ≤ℤ w) weights.first
  pub second : All (λ w. pos 0 ≤ℤ w) weights.second
  pub same_sum : total (λ w. w) weights.first ≡ total (λ w. w) weights.second
  pub sum : pos 1 ≤ℤ total (λ w. w) weights.first

-- the distance of the two means, times itself
abbrev pub distance_size : List SpacePoint → List SpacePoint → Weights → Fraction
distance_size ps qs weights = record {
  n = squared_length (vector (weighted weights.second qs) (weighted weights.first ps));
  d = total (λ w. w) weights.first *ℤ total (λ w. w) weights.first;
}

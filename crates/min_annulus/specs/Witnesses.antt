-- Weighted pairs that show the size of an annulus.
use Rattle.std.specs.Prelude.{◌≡◌, ◌^◌, ◌<◌, ℤ, pos, ◌-ℤ◌, ◌*ℤ◌, ◌≤ℤ◌, List, All, length}
use Rattle.bounds_model.specs.Numbers.{HasCount}
use Rattle.bounds_model.specs.Plane.{PlanePoint, squared_length}
use Rattle.bounds_model.specs.AnnulusAnswer as model
use Rattle.bounds_model.specs.AnnulusAnswer.{pair_sum, weighted_differences}
use Rattle.min_annulus.specs.declared.pairs.Pair.{Pair}
use Rattle.min_annulus.specs.declared.linear_forms.LinearForm.{LinearForm}
use Rattle.pair_weights.specs.declared.extremes.Extremes.{Extremes}
use Rattle.pair_weights.specs.WeightedLists.{listed}

-- a pair as it is listed with a weight: not at all, if there is none
abbrev pub weighted : Pair → ℤ → List model.WeightedPair
weighted pair w = listed pair.first pair.second w

-- the pairs are balanced, and their weighted value is the size of the annulus
pub record ShowSize (points : List PlanePoint) (form : LinearForm) (extremes : Extremes) (pairs : List model.WeightedPair) : Type 0 where
  pub count : HasCount 1 3 pairs
  pub numbers : All (λ pair. (pair.first < length points) × (pair.second < length points)) pairs
  pub weights : All (λ pair. (pos 1 ≤ℤ pair.weight) × (pair.weight ≤ℤ pos (2 ^ 42))) pairs
  pub weight_limit : pair_sum pairs ≤ℤ pos (2 ^ 42)
  pub balanced_x : weighted_differences points (λ p. p.x) pairs ≡ pos 0
  pub balanced_y : weighted_differences points (λ p. p.y) pairs ≡ pos 0
  pub value : pair_sum pairs *ℤ (extremes.high -ℤ extremes.low) ≡ form.w *ℤ weighted_differences points squared_length pairs

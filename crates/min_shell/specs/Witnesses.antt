-- Weighted pairs that show the size of a shell.
use Rattle.std.specs.Prelude.{◌≡◌, ◌^◌, ◌<◌, ℤ, pos, ◌-ℤ◌, ◌*ℤ◌, ◌≤ℤ◌, List, All, length}
use Rattle.bounds_model.specs.Numbers.{HasCount}
use Rattle.bounds_model.specs.Space.{SpacePoint, squared_length}
use Rattle.bounds_model.specs.AnnulusAnswer.{WeightedPair, pair_sum}
use Rattle.bounds_model.specs.ShellAnswer.{weighted_differences}
use Rattle.min_shell.specs.declared.vertices.Vertex.{Vertex}
use Rattle.min_shell.specs.declared.linear_forms.LinearForm.{LinearForm}
use Rattle.pair_weights.specs.declared.extremes.Extremes.{Extremes}
use Rattle.pair_weights.specs.WeightedLists.{listed}

-- a vertex as it is listed with a weight: not at all, if there is none
abbrev pub weighted : Vertex → ℤ → List WeightedPair
weighted v w = listed v.first v.second w

-- the pairs are balanced, and their weighted value is the size of the shell
pub record ShowSize (points : List SpacePoint) (form : LinearForm) (extremes : Extremes) (pairs : List WeightedPair) : Type 0 where
  pub count : HasCount 1 4 pairs
  pub numbers : All (λ pair. (pair.first < length points) × (pair.second < length points)) pairs
  pub weights : All (λ pair. (pos 1 ≤ℤ pair.weight) × (pair.weight ≤ℤ pos (2 ^ 50))) pairs
  pub weight_limit : pair_sum pairs ≤ℤ pos (2 ^ 50)
  pub balanced_x : weighted_differences points (λ p. p.x) pairs ≡ pos 0
  pub balanced_y : weighted_differences points (λ p. p.y) pairs ≡ pos 0
  pub balanced_z : weighted_differences points (λ p. p.z) pairs ≡ pos 0
  pub value : pair_sum pairs *ℤ (extremes.high -ℤ extremes.low) ≡ form.w *ℤ weighted_differences points squared_length pairs

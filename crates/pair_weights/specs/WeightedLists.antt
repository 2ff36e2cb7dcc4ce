-- Pairs of points, listed with weights.
use Rattle.std.specs.Prelude.{ℕ, zero, suc, ℤ, pos, negsuc, List, [], ◌∷◌}
use Rattle.bounds_model.specs.AnnulusAnswer.{WeightedPair}

-- a pair as it is listed with a weight: not at all, if there is none
abbrev pub listed : ℕ → ℕ → ℤ → List WeightedPair
listed first second (pos zero) = []
listed first second (pos (suc n)) = record { first = first; second = second; weight = pos (suc n) } ∷ []
listed first second (negsuc n) = []

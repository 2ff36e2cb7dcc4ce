-- Sums over weighted pairs of points, one of each set.
use Rattle.std.specs.Prelude.{◌≡◌, ℕ, ◌+◌, ◌*◌, ◌≤◌, ◌^◌, pos, List}
use Rattle.bounds_model.specs.Space.{SpacePoint, point_at, vector, plus, times, weighted_sum}
use Rattle.bounds_model.specs.AnnulusAnswer.{WeightedPair, pair_sum}
use Rattle.kernel_laws.specs.Vectors.{sum_of}
use Rattle.kernel_laws.specs.Limits.{IsVectorWithin}
use Rattle.pair_sums.specs.declared.sums.PairSums.{PairSums}

-- how large the sums are, by the sum of the weights
pub record IsInRange (s : PairSums) : Type 0 where
  pub weight : s.weight ≤ 2 ^ 66
  pub first : IsVectorWithin (s.weight * 8000) (sum_of s.first)
  pub second : IsVectorWithin (s.weight * 8000) (sum_of s.second)

-- the sums with a pair more, of these two points and this weight
pub record Adds (w : ℕ) (p q : SpacePoint) (old new : PairSums) : Type 0 where
  pub weight : new.weight ≡ old.weight + w
  pub first : sum_of new.first ≡ plus (sum_of old.first) (times (pos w) p)
  pub second : sum_of new.second ≡ plus (sum_of old.second) (times (pos w) q)

-- the sums over pairs
pub record AreSums (ps qs : List SpacePoint) (pairs : List WeightedPair) (s : PairSums) : Type 0 where
  pub weight : pos s.weight ≡ pair_sum pairs
  pub first : sum_of s.first ≡ weighted_sum (λ pair. pair.weight) (λ pair. point_at ps pair.first) pairs
  pub second : sum_of s.second ≡ weighted_sum (λ pair. pair.weight) (λ pair. point_at qs pair.second) pairs

-- from the weighted sum of the second points to that of the first
abbrev pub pull_of : PairSums → SpacePoint
pull_of s = vector (sum_of s.second) (sum_of s.first)

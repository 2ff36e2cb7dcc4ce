-- Common factors of the weights of pairs.
use Prim.Native.Nat.{◌∣◌}
use Rattle.std.specs.Prelude.{◌≡◌, ℕ, ◌*◌, ◌<◌, List, length, map, All}
use Rattle.answers.specs.declared.pairs.WeightedPair.{WeightedPair}

-- there are pairs, and each has a weight
pub record HaveSomeWeight (pairs : List WeightedPair) : Type 0 where
  pub some : 0 < length pairs
  pub weights : All (λ pair. 0 < pair.weight) pairs

-- the greatest common divisor of the weights
pub record IsCommonFactor (pairs : List WeightedPair) (factor : ℕ) : Type 0 where
  pub divides : All (λ pair. factor ∣ pair.weight) pairs
  pub greatest : (k : ℕ) → All (λ pair. k ∣ pair.weight) pairs → k ∣ factor

-- the pair with a multiple of its weight
abbrev pub times : ℕ → WeightedPair → WeightedPair
times k pair = record { first = pair.first; second = pair.second; weight = k * pair.weight }

-- no number but 1 divides all weights
abbrev pub HaveLowestWeights : List WeightedPair → Type 0
HaveLowestWeights pairs = (k : ℕ) → All (λ pair. k ∣ pair.weight) pairs → k ≡ 1

-- the pairs, without the common factor of their weights
pub record AreInLowestTerms (pairs lowest : List WeightedPair) : Type 0 where
  pub factor : ℕ
  pub some : 0 < factor
  pub same : pairs ≡ map (times factor) lowest
  pub no_factor : HaveLowestWeights lowest

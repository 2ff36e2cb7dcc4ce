-- What sums over pairs give.
use Prim.Native.Nat.{◌∣◌}
use Rattle.std.specs.Prelude.{ℕ, ℤ, pos, nat_abs, List, All}
use Rattle.bounds_model.specs.Space.{SpacePoint, SpaceRatio, vector, dot}
use Rattle.bounds_model.specs.Fractions.{Fraction}
use Rattle.kernel_laws.specs.declared.vectors.Sum.{Sum}
use Rattle.pair_sums.specs.declared.sums.PairSums.{PairSums}
use Rattle.pair_sums.specs.Sums.{pull_of}

-- a weighted sum of points over the sum of the weights
abbrev pub mean_of : ℕ → Sum → SpaceRatio
mean_of weight sum = record { x = sum.x; y = sum.y; z = sum.z; w = pos weight }

-- the product of the pull with the vector from q to p, over the sum of the weights
abbrev pub product_ratio : PairSums → SpacePoint → SpacePoint → Fraction
product_ratio s p q = record { n = dot (pull_of s) (vector q p); d = pos s.weight }

-- the greatest number that divides all entries; that of zeros is 0
pub record IsCommonFactor (entries : List ℤ) (factor : ℕ) : Type 0 where
  pub divides : All (λ e. factor ∣ nat_abs e) entries
  pub greatest : (k : ℕ) → All (λ e. k ∣ nat_abs e) entries → k ∣ factor

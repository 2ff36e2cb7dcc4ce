-- The means that sums over pairs give are those of the points that the pairs name.
use Rattle.std.proofs.Common.{◌≡◌, ap₂, ◌^◌, ℤ, List}
use Rattle.integers.specs.Size.{Size}
use Rattle.integers.proofs.Sizes.{size_more, above_size, below_size}
use Rattle.bounds_model.specs.Ranges.{IsNumber}
use Rattle.bounds_model.specs.Space.{SpacePoint, point_at}
use Rattle.bounds_model.specs.AnnulusAnswer.{WeightedPair}
use Rattle.bounds_model.specs.DistanceAnswer.{mean}
use Rattle.kernel_laws.specs.Limits.{IsVectorWithin}
use Rattle.pair_sums.specs.declared.sums.PairSums.{PairSums}
use Rattle.pair_sums.specs.Sums.{AreSums}
use Rattle.pair_sums.specs.Means.{mean_of}

-- of the first points
pub first_mean_is : {ps qs : List SpacePoint} {pairs : List WeightedPair} {s : PairSums} → AreSums ps qs pairs s → mean_of s.weight s.first ≡ mean (λ pair. point_at ps pair.first) pairs
first_mean_is h = ap₂ (λ v w. record { x = v.x; y = v.y; z = v.z; w = w }) h.first h.weight

-- and of the second
pub second_mean_is : {ps qs : List SpacePoint} {pairs : List WeightedPair} {s : PairSums} → AreSums ps qs pairs s → mean_of s.weight s.second ≡ mean (λ pair. point_at qs pair.second) pairs
second_mean_is h = ap₂ (λ v w. record { x = v.x; y = v.y; z = v.z; w = w }) h.second h.weight

-- the entries of a direction are numbers of an answer
pub are_numbers : {v : SpacePoint} → IsVectorWithin (2 ^ 80) v → IsNumber v.x × IsNumber v.y × IsNumber v.z
are_numbers {v} h = (number v.x h.x, number v.y h.y, number v.z h.z)
  where
    number : (z : ℤ) → Size (2 ^ 80) z → IsNumber z
    number z s = let t : Size (2 ^ 126) z = size_more s tt in record { low = above_size t; high = below_size t }

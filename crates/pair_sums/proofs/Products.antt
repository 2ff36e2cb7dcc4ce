-- Products with the pull, and what they say of the differences.
use Rattle.std.proofs.Common.{◌≡◌, sym, ◌∙◌, ap, ap₂, subst, ◌≤◌, ℤ, pos, ◌+ℤ◌, ◌*ℤ◌, ◌≤ℤ◌, List, [], ◌∷◌, length, get_or, arith}
use Rattle.std.specs.Prelude.{All}
use Rattle.integers.proofs.Identities.{den-ring, read, polys}
use Rattle.integers.proofs.Order.{nonneg_of_mul, positive_from_one}
use Rattle.bounds_model.specs.Space.{SpacePoint, point_at, vector, dot, weighted_sum}
use Rattle.bounds_model.specs.AnnulusAnswer.{WeightedPair, pair_sum}
use Rattle.bounds_model.specs.DistanceAnswer.{difference, pull, first_product}
use Rattle.kernel_laws.specs.Vectors.{sum_of}
use Rattle.kernel_laws.proofs.Points.{squared_length_nonneg}
use Rattle.pair_sums.specs.declared.sums.PairSums.{PairSums}
use Rattle.pair_sums.specs.Sums.{AreSums, pull_of}
use Rattle.pair_sums.specs.Means.{product_ratio}
use Rattle.model_laws.proofs.WeightedVectors.{pull_is_difference, product_of_sum}

-- so the sums give the pull
pub pull_is : {ps qs : List SpacePoint} {pairs : List WeightedPair} {s : PairSums} → AreSums ps qs pairs s → pull_of s ≡ pull ps qs pairs
pull_is {ps} {qs} {pairs} {s} h =
    ap (λ v. vector v (sum_of s.first)) h.second ∙ ap (λ v. vector (weighted_sum (λ (pair : WeightedPair). pair.weight) (λ pair. point_at qs pair.second) pairs) v) h.first ∙ sym (pull_is_difference ps qs pairs)

-- so a product that all differences have with the pull is not below 0
pub product_nonneg : (ps qs : List SpacePoint) (pairs : List WeightedPair) (e : ℤ) → pos 1 ≤ℤ pair_sum pairs → All (λ pair. dot (pull ps qs pairs) (difference ps qs pair) ≡ e) pairs → pos 0 ≤ℤ e
product_nonneg ps qs pairs e some same =
    nonneg_of_mul (pair_sum pairs) (positive_from_one some)
    (subst (λ z. pos 0 ≤ℤ z) (product_of_sum (λ (pair : WeightedPair). pair.weight) (difference ps qs) (pull ps qs pairs) e pairs same) (squared_length_nonneg (pull ps qs pairs)))

-- the factors of a product may be exchanged
pub dot-comm : (a b : SpacePoint) → dot a b ≡ dot b a
dot-comm a b = plain a.x a.y a.z b.x b.y b.z
  where
    plain : (a b c d e f : ℤ) → a *ℤ d +ℤ b *ℤ e +ℤ c *ℤ f ≡ d *ℤ a +ℤ e *ℤ b +ℤ f *ℤ c
    plain a b c d e f = read (a ∷ b ∷ c ∷ d ∷ e ∷ f ∷ []) (λ xs p q r s t u. simp (p, q, r, s, t, u, polys) (den-ring xs _ _ tt))

-- the product of the first pair's difference, by the points that the pair names
pub first_product_is : (ps qs : List SpacePoint) (pairs : List WeightedPair) (d : WeightedPair) (p q : SpacePoint) → 1 ≤ length pairs
    → point_at ps (get_or pairs 0 d).first ≡ p → point_at qs (get_or pairs 0 d).second ≡ q → first_product ps qs pairs ≡ dot (pull ps qs pairs) (vector q p)
first_product_is ps qs [] d p q some is_p is_q = absurd (omega arith)
first_product_is ps qs (pair ∷ rest) d p q some is_p is_q = ap₂ (λ a b. dot (pull ps qs (pair ∷ rest)) (vector a b)) is_q is_p

-- over the sum of the weights it is what the sums give
pub product_ratio_is : {ps qs : List SpacePoint} {pairs : List WeightedPair} {s : PairSums} (d : WeightedPair) (p q : SpacePoint) → AreSums ps qs pairs s → 1 ≤ length pairs
    → point_at ps (get_or pairs 0 d).first ≡ p → point_at qs (get_or pairs 0 d).second ≡ q → product_ratio s p q ≡ record { n = first_product ps qs pairs; d = pair_sum pairs }
product_ratio_is {ps} {qs} {pairs} {s} d p q sums some is_p is_q =
    ap₂ (λ v w. record { n = dot v (vector q p); d = w }) (pull_is sums) sums.weight ∙ ap (λ n. record { n = n; d = pair_sum pairs }) (sym (first_product_is ps qs pairs d p q some is_p is_q))

-- Sums over pairs, one pair after another.
use Rattle.std.proofs.Common.{◌≡◌, sym, ◌∙◌, ap, ap₂, ℕ, pos, ◌+ℤ◌, List, [], ◌∷◌, ◌++◌}
use Rattle.integers.proofs.Sums.{total-one_more}
use Rattle.bounds_model.specs.Space.{SpacePoint, point_at, plus, times}
use Rattle.bounds_model.specs.AnnulusAnswer.{WeightedPair}
use Rattle.kernel_laws.proofs.WeightedSums.{weighted_sum-one_more}
use Rattle.pair_sums.specs.declared.sums.PairSums.{PairSums}
use Rattle.pair_sums.specs.Sums.{Adds, AreSums}

-- the sums with one pair more, of weight w, which names the points p and q
pub sums_of_more : (ps qs : List SpacePoint) (before : List WeightedPair) (pair : WeightedPair) (old new : PairSums) (w : ℕ) (p q : SpacePoint)
    → pair.weight ≡ pos w → point_at ps pair.first ≡ p → point_at qs pair.second ≡ q → AreSums ps qs before old → Adds w p q old new → AreSums ps qs (before ++ pair ∷ []) new
sums_of_more ps qs before pair old new w p q weighs is_p is_q was adds = record {
  weight = ap pos adds.weight ∙ ap₂ (λ a b. a +ℤ b) was.weight (sym weighs) ∙ sym (total-one_more (λ (pair : WeightedPair). pair.weight) before pair);
  first = adds.first ∙ ap₂ plus was.first (ap₂ times (sym weighs) (sym is_p)) ∙ sym (weighted_sum-one_more (λ (pair : WeightedPair). pair.weight) (λ pair. point_at ps pair.first) before pair);
  second = adds.second ∙ ap₂ plus was.second (ap₂ times (sym weighs) (sym is_q)) ∙ sym (weighted_sum-one_more (λ (pair : WeightedPair). pair.weight) (λ pair. point_at qs pair.second) before pair);
}

-- Sums over supports, one support after another.
use Rattle.std.proofs.Common.{◌≡◌, sym, ◌∙◌, ap, ap₂, ℕ, pos, ◌+ℤ◌, ◌*ℤ◌, List, [], ◌∷◌, ◌++◌}
use Rattle.integers.proofs.Sums.{total-one_more}
use Rattle.bounds_model.specs.Space.{SpacePoint, point_at, vector, plus, times, squared_length}
use Rattle.bounds_model.specs.BallAnswer.{Weighted}
use Rattle.kernel_laws.proofs.WeightedSums.{weighted_sum-one_more}
use Rattle.ball_sums.specs.declared.sums.Sums.{Sums}
use Rattle.ball_sums.specs.Sums.{Adds, AreSumsFrom}

-- the sums with one support more, of weight w, to whose point v is the vector
pub sums_of_more : (points : List SpacePoint) (from : SpacePoint) (before : List Weighted) (s : Weighted) (old new : Sums) (w : ℕ) (v : SpacePoint) → s.weight ≡ pos w → vector from (point_at points s.point) ≡ v
    → AreSumsFrom from points before old → Adds w v old new → AreSumsFrom from points (before ++ s ∷ []) new
sums_of_more points from before s old new w v weighs is was adds = record {
  weight = ap pos adds.weight ∙ ap₂ (λ a b. a +ℤ b) was.weight (sym weighs) ∙ sym (total-one_more (λ s. s.weight) before s);
  pull = adds.pull ∙ ap₂ plus was.pull (ap₂ times (sym weighs) (sym is)) ∙ sym (weighted_sum-one_more (λ s. s.weight) (λ s. vector from (point_at points s.point)) before s);
  second_moment = adds.second_moment ∙ ap₂ (λ a b. a +ℤ b) was.second_moment (ap₂ (λ a b. a *ℤ squared_length b) (sym weighs) (sym is)) ∙ sym (total-one_more (λ s. s.weight *ℤ squared_length (vector from (point_at points s.point))) before s);
}

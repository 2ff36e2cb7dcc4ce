-- Supports whose weights are not within the limits.
use Rattle.std.proofs.Common.{◌≡◌, subst, ◌∙◌, ap, ℕ, ◌+◌, ◌<◌, ◌⊎◌, inl, inr, ℤ, pos, ◌+ℤ◌, ◌≤ℤ◌, List, length, map, take, get_or, arith}
use Rattle.std.specs.Prelude.{All}
use Rattle.std.proofs.lemmas.Int.{ints}
use Rattle.std.proofs.lemmas.List.{map_more, take-map}
use Rattle.std.proofs.lemmas.List.Elements.{All-weaker}
use Rattle.integers.proofs.Sums.{total-one_more}
use Rattle.bounds_model.specs.BallAnswer.{weight_sum}
use Rattle.kernel_laws.specs.Limits.{ball_limit}
use Rattle.ball_sums.proofs.Weights.{weights_of_some}
use Rattle.answers.specs.declared.balls.Weighted.{Weighted}
use Rattle.answers.specs.Answers.{weighted_of}
use Rattle.ball_sums.specs.DeterminedBalls.{HasBallLimits}
use Rattle.integers.proofs.Lists.{All-unmap}
use Rattle.integers.proofs.Order.{nonneg_from_one}

-- those before a support, and its own, are at most all
prefix_sum : (supports : List Weighted) (i : ℕ) (none : Weighted) → i < length supports → All (λ s. pos 1 ≤ℤ s.weight) (map weighted_of supports)
    → (weight_sum (map weighted_of (take i supports)) +ℤ pos (get_or supports i none).weight) ≤ℤ weight_sum (map weighted_of supports)
prefix_sum supports i none below some =
    let front = map weighted_of (take (i + 1) supports) in
    let first : weight_sum front ≡ weight_sum (map weighted_of (take i supports)) +ℤ pos (get_or supports i none).weight = ap weight_sum (map_more weighted_of supports i none below) ∙ total-one_more (λ s. s.weight) (map weighted_of (take i supports)) (weighted_of (get_or supports i none)) in
    let part : weight_sum front ≤ℤ weight_sum (map weighted_of supports) = subst (λ ss. weight_sum ss ≤ℤ weight_sum (map weighted_of supports)) (take-map weighted_of (i + 1) supports)
    (weights_of_some (map weighted_of supports) (i + 1) (All-weaker (λ s. pos 1 ≤ℤ s.weight) (λ s. pos 0 ≤ℤ s.weight) (λ s h. nonneg_from_one h) (map weighted_of supports) some)) in
    subst (λ z. z ≤ℤ weight_sum (map weighted_of supports)) first part

-- a support without weight, or past the limit of the weights, is not within the limits
pub too_heavy : {dim count : ℕ} (supports : List Weighted) (i : ℕ) (none : Weighted) (t : ℕ) → i < length supports → pos t ≡ weight_sum (map weighted_of (take i supports))
    → ((get_or supports i none).weight ≡ 0) ⊎ (ball_limit dim < t + (get_or supports i none).weight) → HasBallLimits dim count (map weighted_of supports) → ⊥
too_heavy {dim} supports i none t below is (inl zero) limits =
    let own : pos 1 ≤ℤ pos (get_or supports i none).weight = All-unmap (λ s. pos 1 ≤ℤ s.weight) weighted_of supports limits.weights i none below in
    nothing (get_or supports i none).weight zero own
  where
    nothing : (n : ℕ) → n ≡ 0 → pos 1 ≤ℤ pos n → ⊥
    nothing n e h = omega (arith, ints)
too_heavy {dim} supports i none t below is (inr over) limits =
    past t (get_or supports i none).weight (ball_limit dim) (weight_sum (map weighted_of (take i supports))) (weight_sum (map weighted_of supports)) is over (prefix_sum supports i none below limits.weights) limits.weight_limit
  where
    past : (t w limit : ℕ) (before all : ℤ) → pos t ≡ before → limit < t + w → (before +ℤ pos w) ≤ℤ all → all ≤ℤ pos limit → ⊥
    past t w limit before all e h k l = omega (arith, ints)

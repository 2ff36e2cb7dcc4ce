-- What supports and points are to the ball that supports hold.
use Rattle.std.proofs.Common.{◌≡◌, sym, subst, ◌∙◌, ap, ap₂, ℕ, ◌<◌, ◌≤◌, ℤ, pos, ◌-ℤ◌, ◌*ℤ◌, ◌<ℤ◌, ◌≤ℤ◌, List, [], ◌∷◌, length, map, get_or, Bool, IsTrue, ◌↔◌, arith}
use Rattle.std.specs.Prelude.{slice_get, Some, All}
use Rattle.std.proofs.lemmas.Int.{ints, by_lt_z}
use Rattle.std.proofs.lemmas.List.{length-map}
use Rattle.bounds_model.specs.Space.{SpacePoint, point_at, vector, dot, squared_length}
use Rattle.bounds_model.specs.BallAnswer as model
use Rattle.bounds_model.specs.BallAnswer.{weight_sum, first_support, pull, IsOnBall, IsNotOutside}
use Rattle.kernel_laws.specs.Vectors.{sum_of}
use Rattle.kernel_laws.specs.Signs.{slack_from_origin}
use Rattle.kernel_laws.proofs.Points.{point_at_place}
use Rattle.answers.specs.declared.balls.Weighted.{Weighted}
use Rattle.answers.specs.Answers.{weighted_of}
use Rattle.integers.proofs.Lists.{All-unmap}
use Rattle.ball_sums.specs.declared.sums.Sums.{Sums}
use Rattle.ball_sums.specs.DeterminedBalls.{AreSupportSums}

-- and that of the first support
pub first_placed : {P : Type 0} (place : P → SpacePoint) (points : List P) (supports : List Weighted) (none : Weighted) (p : P) → 1 ≤ length supports → slice_get points (get_or supports 0 none).point ≡ Some p
    → first_support (map place points) (map weighted_of supports) ≡ place p
first_placed place points [] none p some is = absurd (omega arith)
first_placed place points (s ∷ rest) none p some is = point_at_place place points s.point p is

-- supports that are there
pub some_supports : (supports : List Weighted) → 1 ≤ length (map weighted_of supports) → 1 ≤ length supports
some_supports supports h = subst (λ n. 1 ≤ n) (length-map supports weighted_of) h

-- each names a point
pub names_point : {count : ℕ} (supports : List Weighted) (i : ℕ) (none : Weighted) → All (λ s. s.point < count) (map weighted_of supports) → i < length supports → (get_or supports i none).point < count
names_point {count} supports i none all below = All-unmap (λ s. s.point < count) weighted_of supports all i none below

-- a difference that is not below 0
difference : (a b : ℤ) → ((a -ℤ b) <ℤ pos 0 → ⊥) → b ≤ℤ a
difference a b h = by_lt_z a b (λ below. absurd (h (omega (arith, ints)))) (λ most. most)

-- the slack in the ball that the supports hold, in the supports' own words
slack_is : {dim : ℕ} (points : List SpacePoint) (supports : List model.Weighted) (h : Sums) (first p : SpacePoint) → AreSupportSums dim points supports h → first_support points supports ≡ first
    → slack_from_origin (sum_of h.pull) h.weight (vector first p) ≡ pos 2 *ℤ dot (vector (first_support points supports) p) (pull points supports) -ℤ weight_sum supports *ℤ squared_length (vector (first_support points supports) p)
slack_is points supports h first p totals is =
    ap₂ (λ sum weight. pos 2 *ℤ dot (vector first p) sum -ℤ weight *ℤ squared_length (vector first p)) totals.sums.sums.pull totals.sums.sums.weight
    ∙ ap (λ f. pos 2 *ℤ dot (vector f p) (pull points supports) -ℤ weight_sum supports *ℤ squared_length (vector f p)) (sym is)

-- a point of slack 0 is on the ball
pub on_ball_by : {yes : Bool} {dim : ℕ} (points : List SpacePoint) (supports : List model.Weighted) (h : Sums) (first p : SpacePoint) (s : model.Weighted) → AreSupportSums dim points supports h → first_support points supports ≡ first → point_at points s.point ≡ p
    → (IsTrue yes ↔ (slack_from_origin (sum_of h.pull) h.weight (vector first p) ≡ pos 0)) → IsTrue yes ↔ IsOnBall points supports s
on_ball_by {yes} points supports h first p s totals is at test =
    let e = ap (λ q. slack_from_origin (sum_of h.pull) h.weight (vector first q)) (sym at) ∙ slack_is points supports h first (point_at points s.point) totals is in
    (λ t. equal _ _ (sym e ∙ test.0 t), λ on. test.1 (e ∙ none _ _ on))
  where
    equal : (a b : ℤ) → a -ℤ b ≡ pos 0 → a ≡ b
    equal a b h = omega (arith, ints)

    none : (a b : ℤ) → a ≡ b → a -ℤ b ≡ pos 0
    none a b h = omega (arith, ints)

-- and one with a slack below 0 is outside
pub outside_by : {yes : Bool} {dim : ℕ} (points : List SpacePoint) (supports : List model.Weighted) (h : Sums) (first p : SpacePoint) → AreSupportSums dim points supports h → first_support points supports ≡ first
    → (IsTrue yes ↔ (slack_from_origin (sum_of h.pull) h.weight (vector first p) <ℤ pos 0)) → (IsTrue yes → IsNotOutside points supports p → ⊥) × ((IsTrue yes → ⊥) → IsNotOutside points supports p)
outside_by {yes} points supports h first p totals is test =
    let e = slack_is points supports h first p totals is in
    (λ t inside. clash _ _ (subst (λ z. z <ℤ pos 0) e (test.0 t)) inside, λ no. difference _ _ (λ below. no (test.1 (subst (λ z. z <ℤ pos 0) (sym e) below))))
  where
    clash : (a b : ℤ) → (a -ℤ b) <ℤ pos 0 → b ≤ℤ a → ⊥
    clash a b h k = omega (arith, ints)

-- Slacks of points as seen from one point say where the points are as seen from another.
use Rattle.std.proofs.Common.{◌≡◌, sym, subst, ap, ℤ, pos, ◌+ℤ◌, ◌-ℤ◌, ◌*ℤ◌, ◌≤ℤ◌, List, [], ◌∷◌, arith}
use Rattle.std.proofs.lemmas.Int.{ints}
use Rattle.integers.specs.Total.{total}
use Rattle.integers.proofs.Identities.{den-ring, read, polys, lits}
use Rattle.integers.proofs.Order.{combine1}
use Rattle.bounds_model.specs.Space.{SpacePoint, vector, plus, times, dot, squared_length, weighted_sum}
use Rattle.kernel_laws.proofs.Points.{same_point}

-- ---- weighted sums

-- a coordinate with one point more
sum_step : (w a o f R T S : ℤ) → S ≡ R +ℤ T *ℤ (f -ℤ o) → w *ℤ (a -ℤ o) +ℤ S ≡ w *ℤ (a -ℤ f) +ℤ R +ℤ (w +ℤ T) *ℤ (f -ℤ o)
sum_step w a o f R T S h = combine1 (pos 1) h (read (w ∷ a ∷ o ∷ f ∷ R ∷ T ∷ S ∷ []) (λ xs b c d e g h i. simp (b, c, d, e, g, h, i, polys, lits xs) (den-ring xs _ _ tt)))

-- the weighted sum of points as seen from o, by that as seen from f
pub sum_seen : {X : Type 0} (weight : X → ℤ) (at : X → SpacePoint) (o f : SpacePoint) (xs : List X)
    → weighted_sum weight (λ x. vector o (at x)) xs ≡ plus (weighted_sum weight (λ x. vector f (at x)) xs) (times (total weight xs) (vector o f))
sum_seen weight at o f [] = same_point (nothing o.x f.x) (nothing o.y f.y) (nothing o.z f.z)
  where
    nothing : (o f : ℤ) → pos 0 ≡ pos 0 +ℤ pos 0 *ℤ (f -ℤ o)
    nothing o f = read (o ∷ f ∷ []) (λ xs a b. simp (a, b, polys, lits xs) (den-ring xs _ _ tt))
sum_seen weight at o f (x ∷ xs) =
    let r = weighted_sum weight (λ x. vector f (at x)) xs in
    let rest = sum_seen weight at o f xs in
    let t = total weight xs in
    same_point
    (sum_step (weight x) (at x).x o.x f.x r.x t _ (ap (λ p. p.x) rest))
    (sum_step (weight x) (at x).y o.y f.y r.y t _ (ap (λ p. p.y) rest))
    (sum_step (weight x) (at x).z o.z f.z r.z t _ (ap (λ p. p.z) rest))

-- ---- slacks

-- how far a point is inside the ball through f, by the slacks of both as seen from o
inside_numbers : (m ox oy oz fx fy fz px py pz cx cy cz : ℤ)
    → pos 2 *ℤ ((px -ℤ ox) *ℤ (cx +ℤ m *ℤ (fx -ℤ ox)) +ℤ (py -ℤ oy) *ℤ (cy +ℤ m *ℤ (fy -ℤ oy)) +ℤ (pz -ℤ oz) *ℤ (cz +ℤ m *ℤ (fz -ℤ oz)))
    -ℤ pos 1 *ℤ (m *ℤ ((px -ℤ ox) *ℤ (px -ℤ ox) +ℤ (py -ℤ oy) *ℤ (py -ℤ oy) +ℤ (pz -ℤ oz) *ℤ (pz -ℤ oz)))
    ≡ pos 2 *ℤ ((px -ℤ fx) *ℤ cx +ℤ (py -ℤ fy) *ℤ cy +ℤ (pz -ℤ fz) *ℤ cz) -ℤ m *ℤ ((px -ℤ fx) *ℤ (px -ℤ fx) +ℤ (py -ℤ fy) *ℤ (py -ℤ fy) +ℤ (pz -ℤ fz) *ℤ (pz -ℤ fz))
    +ℤ (pos 2 *ℤ ((fx -ℤ ox) *ℤ (cx +ℤ m *ℤ (fx -ℤ ox)) +ℤ (fy -ℤ oy) *ℤ (cy +ℤ m *ℤ (fy -ℤ oy)) +ℤ (fz -ℤ oz) *ℤ (cz +ℤ m *ℤ (fz -ℤ oz)))
    -ℤ pos 1 *ℤ (m *ℤ ((fx -ℤ ox) *ℤ (fx -ℤ ox) +ℤ (fy -ℤ oy) *ℤ (fy -ℤ oy) +ℤ (fz -ℤ oz) *ℤ (fz -ℤ oz))))
inside_numbers m ox oy oz fx fy fz px py pz cx cy cz =
    read (m ∷ ox ∷ oy ∷ oz ∷ fx ∷ fy ∷ fz ∷ px ∷ py ∷ pz ∷ cx ∷ cy ∷ cz ∷ [])
    (λ xs a b c d e f g h i j k l n. simp (a, b, c, d, e, f, g, h, i, j, k, l, n, polys, lits xs) (den-ring xs _ _ tt))

-- the slack for balls of a vector, by the sum of the weights and the weighted sum
abbrev pub ball_slack : ℤ → SpacePoint → SpacePoint → ℤ
ball_slack m s v = pos 2 *ℤ dot v s -ℤ pos 1 *ℤ (m *ℤ squared_length v)

-- the same law for points
pub inside : (m : ℤ) (o f p c s : SpacePoint) → s ≡ plus c (times m (vector o f))
    → ball_slack m s (vector o p) ≡ pos 2 *ℤ dot (vector f p) c -ℤ m *ℤ squared_length (vector f p) +ℤ ball_slack m s (vector o f)
inside m o f p c s e =
    subst (λ s. ball_slack m s (vector o p) ≡ pos 2 *ℤ dot (vector f p) c -ℤ m *ℤ squared_length (vector f p) +ℤ ball_slack m s (vector o f)) (sym e)
    (inside_numbers m o.x o.y o.z f.x f.y f.z p.x p.y p.z c.x c.y c.z)

-- a point of f's slack is on the ball
pub on_ball_of_same : (m : ℤ) (o f p c s : SpacePoint) → s ≡ plus c (times m (vector o f))
    → ball_slack m s (vector o p) ≡ ball_slack m s (vector o f) → pos 2 *ℤ dot (vector f p) c ≡ m *ℤ squared_length (vector f p)
on_ball_of_same m o f p c s e h = conclude _ _ _ _ (inside m o f p c s e) h
  where
    conclude : (a b x y : ℤ) → a ≡ x -ℤ y +ℤ b → a ≡ b → x ≡ y
    conclude a b x y h k = omega (arith, ints)

-- one of no lower slack is not outside
pub inside_of_above : (m : ℤ) (o f p c s : SpacePoint) → s ≡ plus c (times m (vector o f))
    → ball_slack m s (vector o f) ≤ℤ ball_slack m s (vector o p) → (m *ℤ squared_length (vector f p)) ≤ℤ (pos 2 *ℤ dot (vector f p) c)
inside_of_above m o f p c s e h = conclude _ _ _ _ (inside m o f p c s e) h
  where
    conclude : (a b x y : ℤ) → a ≡ x -ℤ y +ℤ b → b ≤ℤ a → y ≤ℤ x
    conclude a b x y h k = omega (arith, ints)

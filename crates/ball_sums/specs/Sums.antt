-- Sums over weighted points, as seen from one point.
use Rattle.std.specs.Prelude.{◌≡◌, ℕ, ◌+◌, ◌*◌, ◌≤◌, pos, ◌+ℤ◌, ◌*ℤ◌, List}
use Rattle.integers.specs.Total.{total}
use Rattle.bounds_model.specs.Space.{SpacePoint, point_at, vector, plus, times, squared_length, weighted_sum}
use Rattle.bounds_model.specs.BallAnswer.{Weighted, weight_sum, first_support}
use Rattle.kernel_laws.specs.Vectors.{sum_of}
use Rattle.kernel_laws.specs.Limits.{IsVectorWithin, difference_limit, ball_limit}
use Rattle.ball_sums.specs.declared.sums.Sums.{Sums}

-- the greatest squared length of a difference of two points
abbrev pub squared_length_limit : ℕ → ℕ
squared_length_limit dim = 3 * (difference_limit dim * difference_limit dim)

-- how large the sums are, by the sum of the weights
pub record IsInRange (dim : ℕ) (s : Sums) : Type 0 where
  pub weight : s.weight ≤ ball_limit dim
  pub pull : IsVectorWithin (s.weight * difference_limit dim) (sum_of s.pull)
  pub second_moment : s.second_moment ≤ s.weight * squared_length_limit dim

-- the sums with a point more, which has this weight and vector
pub record Adds (w : ℕ) (v : SpacePoint) (old new : Sums) : Type 0 where
  pub weight : new.weight ≡ old.weight + w
  pub pull : sum_of new.pull ≡ plus (sum_of old.pull) (times (pos w) v)
  pub second_moment : pos new.second_moment ≡ pos old.second_moment +ℤ pos w *ℤ squared_length v

-- the sums over supports, as seen from a point
pub record AreSumsFrom (from : SpacePoint) (points : List SpacePoint) (supports : List Weighted) (s : Sums) : Type 0 where
  pub weight : pos s.weight ≡ weight_sum supports
  pub pull : sum_of s.pull ≡ weighted_sum (λ s. s.weight) (λ s. vector from (point_at points s.point)) supports
  pub second_moment : pos s.second_moment ≡ total (λ s. s.weight *ℤ squared_length (vector from (point_at points s.point))) supports

-- the sums over supports, as seen from the first of them
pub record AreSums (dim : ℕ) (points : List SpacePoint) (supports : List Weighted) (s : Sums) : Type 0 where
  pub range : IsInRange dim s
  pub sums : AreSumsFrom (first_support points supports) points supports s

-- The furthest neighbours of a hull's corners.
use Rattle.std.specs.Prelude.{ℕ, ◌+◌, ◌-◌, ◌%◌, ◌<◌, ◌≤ℤ◌, ◌<ℤ◌, List, length, All}
use Rattle.bounds_model.specs.Numbers.{EachBelow}
use Rattle.bounds_model.specs.Plane.{PlanePoint, point_at, squared_distance}
use Rattle.bounds_model.specs.Hull.{around}

-- how many positions after the position i, going around so many of them, the position j comes
abbrev pub positions_after : ℕ → ℕ → ℕ → ℕ
positions_after count i j = (j + (count - i)) % count

-- the first furthest corner from corner i: no corner is farther, and those that come before it, going around from i, are nearer
pub record IsFurthest (corners : List PlanePoint) (i far : ℕ) : Type 0 where
  pub in_range : far < length corners
  pub furthest : All (λ c. squared_distance (point_at corners i) c ≤ℤ squared_distance (point_at corners i) (point_at corners far)) corners
  pub first : EachBelow (positions_after (length corners) i far) (λ s. squared_distance (point_at corners i) (around corners (i + s)) <ℤ squared_distance (point_at corners i) (point_at corners far))

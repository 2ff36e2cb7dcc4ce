-- What is asked of the corners that are named, one row of the table of distances after another.
use Rattle.std.specs.Prelude.{ℕ, ◌+◌, ◌-◌, ◌%◌, ◌<◌, ◌≤◌, ℤ, ◌≤ℤ◌, ◌<ℤ◌, List, length, All}
use Rattle.bounds_model.specs.Numbers.{HasCount}
use Rattle.bounds_model.specs.Plane.{PlanePoint}
use Rattle.bounds_model.specs.Furthest.{positions_after}
use Rattle.bounds_model.specs.FurthestAnswer.{Entry, far_at}
use Rattle.furthest_laws.specs.Rows.{distances}

-- 1 to 10000 corners, numbers of points, of which there are so many, and positions of corners
pub record HasFurthestLimits (count : ℕ) (entries : List Entry) : Type 0 where
  pub as_many : HasCount 1 10000 entries
  pub corners : All (λ e. e.corner < count) entries
  pub fars : All (λ e. e.far < length entries) entries

-- how many positions on the corner stands that is named for a corner
abbrev pub gap : List Entry → ℕ → ℕ
gap entries i = positions_after (length entries) (i % length entries) (far_at entries (i % length entries))

-- the corner so many positions on is the first furthest one of the row, as far as the corners show from that of the row before to that of the row after
pub record IsRowTest (table : ℕ → ℕ → ℤ) (h before here after row : ℕ) : Type 0 where
  pub some : 1 ≤ here
  pub rises : before ≤ here + 1
  pub nearer : (s : ℕ) → 1 ≤ s → before ≤ s + 1 → s < here → table row (row + s) <ℤ table row (row + here)
  pub no_farther : (s : ℕ) → here < s → s ≤ after + 1 → s < h → table row (row + s) ≤ℤ table row (row + here)

-- the corner that is named for this one passes
abbrev pub RowPasses : List PlanePoint → List Entry → ℕ → Type 0
RowPasses corners entries i = IsRowTest (distances corners) (length entries) (gap entries (i + (length entries - 1))) (gap entries i) (gap entries (i + 1)) i

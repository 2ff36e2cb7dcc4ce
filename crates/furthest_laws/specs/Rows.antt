-- The distances of corners as a table: row i has the distances from corner i to those after it, going around, in the columns i + 1 to i + h - 1.
use Rattle.std.specs.Prelude.{ℕ, ◌+◌, ◌<◌, ◌≤◌, ℤ, ◌≤ℤ◌, ◌<ℤ◌, List}
use Rattle.bounds_model.specs.Plane.{PlanePoint, squared_distance}
use Rattle.bounds_model.specs.Hull.{around}

-- of the columns from one to before another, x is the first with the greatest value
pub record IsFirstGreatest (value : ℕ → ℤ) (from to x : ℕ) : Type 0 where
  pub from_first : from ≤ x
  pub to_last : x < to
  pub before : (k : ℕ) → from ≤ k → k < x → value k <ℤ value x
  pub after : (k : ℕ) → x < k → k < to → value k ≤ℤ value x

-- x is the first greatest of the whole row i
abbrev pub IsRowGreatest : (ℕ → ℕ → ℤ) → ℕ → ℕ → ℕ → Type 0
IsRowGreatest table h i x = IsFirstGreatest (table i) (i + 1) (i + h) x

-- in four corners in turning order the crossing pairs are far apart: if the last one is at least as far from the first as the third is, it is farther from the second than the third is
abbrev pub Crosses : (ℕ → ℕ → ℤ) → ℕ → Type 0
Crosses table h = (i j k l : ℕ) → i < j → j < k → k < l → l < i + h → table i k ≤ℤ table i l → table j k <ℤ table j l

-- the squared distances of corners, counted around
abbrev pub distances : List PlanePoint → ℕ → ℕ → ℤ
distances corners i j = squared_distance (around corners i) (around corners j)

-- the column that is named for the row i + 1 is its first greatest, as far as the columns from that of row i to that of row i + 2 show
pub record IsLocalGreatest (table : ℕ → ℕ → ℤ) (h : ℕ) (named : ℕ → ℕ) (i : ℕ) : Type 0 where
  pub above : i + 1 < named (i + 1)
  pub within : named (i + 1) < i + 1 + h
  pub rises : named i ≤ named (i + 1)
  pub before : (k : ℕ) → i + 1 < k → named i ≤ k → k < named (i + 1) → table (i + 1) k <ℤ table (i + 1) (named (i + 1))
  pub after : (k : ℕ) → named (i + 1) < k → k ≤ named (i + 2) → k < i + 1 + h → table (i + 1) k ≤ℤ table (i + 1) (named (i + 1))

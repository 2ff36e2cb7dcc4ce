-- The leaf of one square: two points at the ends of the longer side of the bounding box.
use Rattle.std.specs.Prelude.{◌⊎◌, ℕ, ◌+◌, ◌<◌, max, List, length, ℤ, ◌+ℤ◌, ◌-ℤ◌, ◌≤ℤ◌, ◌<ℤ◌}
use Rattle.std.specs.Ordering.{on, int_cmp}
use Rattle.bounds_model.specs.Plane.{PlanePoint, point_at}
use Rattle.bounds_model.specs.CentresAnswer.{Leaf}
use Rattle.bounded_coords.specs.Firsts.{IsFirstLeast, IsFirstGreatest}

-- the later of the leaf's points, in the order of the file
abbrev pub later : Leaf → ℕ
later leaf = max leaf.first leaf.second

-- how far the leaf's second point is above its first one
abbrev pub span : (PlanePoint → ℤ) → List PlanePoint → Leaf → ℤ
span of points leaf = of (point_at points leaf.second) -ℤ of (point_at points leaf.first)

-- the leaf names the ends in one coordinate, each the first in the file; in the other one no two points are farther apart, and no two of the first i as far apart
pub record IsAlong (of beside : PlanePoint → ℤ) (points : List PlanePoint) (i : ℕ) (leaf : Leaf) : Type 0 where
  pub first : IsFirstLeast (on of int_cmp) points leaf.first
  pub second : IsFirstGreatest (on of int_cmp) points leaf.second
  pub no_longer : (j k : ℕ) → j < length points → k < length points → beside (point_at points k) ≤ℤ (beside (point_at points j) +ℤ span of points leaf)
  pub not_yet : (j k : ℕ) → j < i → k < i → beside (point_at points k) <ℤ (beside (point_at points j) +ℤ span of points leaf)

-- the ends of the box's longer side; of a square box, of the side whose ends the file shows first, and along x where one point ends both
abbrev pub IsOnlyLeaf : List PlanePoint → Leaf → Type 0
IsOnlyLeaf points leaf = IsAlong (λ p. p.x) (λ p. p.y) points (later leaf) leaf ⊎ IsAlong (λ p. p.y) (λ p. p.x) points (later leaf + 1) leaf

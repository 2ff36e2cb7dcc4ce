-- A polygon's corners, chosen by their positions.
use Rattle.std.specs.Prelude.{◌≡◌, ℕ, ◌+◌, ◌-◌, ◌^◌, ◌<◌, ◌≤◌, ℤ, pos, ◌+ℤ◌, ◌≤ℤ◌, ◌<ℤ◌, List, [], ◌∷◌, ◌++◌, length, map, take, slice_index_or, All}
use Rattle.std.specs.List.Sorted.{IsStrictlyIncreasing}
use Rattle.integers.specs.Size.{Size}
use Rattle.bounds_model.specs.Plane.{PlanePoint, point_at, cross}
use Rattle.bounds_model.specs.Kgon.{twice_area, most_added}
use Rattle.added_areas.specs.AddedRows.{most_after}
use Rattle.extremal_kgon.specs.declared.table.Best.{Best}

-- the first position after the last one with which, and with so many more after it, the size is still reached
pub record IsNext (vectors : List PlanePoint) (last more : ℕ) (covered size : ℤ) (next : ℕ) : Type 0 where
  pub after : last < next
  pub below : next < length vectors
  pub reaches : covered +ℤ cross (point_at vectors last) (point_at vectors next) +ℤ most_after vectors more next ≡ size
  pub first : (other : ℕ) → last < other → other < next → (covered +ℤ cross (point_at vectors last) (point_at vectors other) +ℤ most_after vectors more other) <ℤ size

-- no position between the one at a place and the next one reaches the size in place of that next one
abbrev pub NoneBetween : List PlanePoint → ℕ → ℕ → ℤ → List ℕ → ℕ → Type 0
NoneBetween corners layers first size positions place =
    (other : ℕ) → slice_index_or positions place 0 < other → other < slice_index_or positions (place + 1) 0
    → (twice_area (map (point_at corners) (take (place + 1) positions ++ other ∷ [])) +ℤ most_added corners first (layers + 1 - (place + 1)) other) <ℤ size

-- rising positions from the first one on, one alone where there are no triangles, that have this as twice their area, and pass over none that reaches it
pub record IsFirstChoice (corners : List PlanePoint) (layers first : ℕ) (area : ℤ) (positions : List ℕ) : Type 0 where
  pub some : 1 ≤ length positions
  pub few : length positions ≤ layers + 2
  pub alone : layers ≡ 0 → length positions ≡ 1
  pub begins : slice_index_or positions 0 0 ≡ first
  pub rising : IsStrictlyIncreasing positions
  pub in_range : All (λ i. i < length corners) positions
  pub has_area : twice_area (map (point_at corners) positions) ≡ area
  pub none_between : (place : ℕ) → place + 1 < length positions → NoneBetween corners layers first area positions place

-- the greatest area, its first corner, and that so many triangles from it on reach it
pub record IsReached (corners : List PlanePoint) (layers : ℕ) (best : Best) : Type 0 where
  pub first : best.first < length corners
  pub not_negative : pos 0 ≤ℤ best.area
  pub small : Size (2 ^ 43) best.area
  pub alone : layers ≡ 0 → best.area ≡ pos 0
  pub reached : most_added corners best.first (layers + 1) best.first ≡ best.area

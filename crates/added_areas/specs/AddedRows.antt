-- Rows of numbers that say how much further corners add.
use Rattle.std.specs.Prelude.{◌≡◌, ℕ, zero, suc, ◌+◌, ◌-◌, ◌*◌, ◌<◌, ◌≤◌, ℤ, pos, ◌+ℤ◌, List, length, slice_index_or}
use Rattle.bounds_model.specs.Plane.{PlanePoint, point_at, cross}
use Rattle.bounds_model.specs.Kgon.{greatest_from}

-- the number at this index
abbrev pub at : List ℤ → ℕ → ℤ
at numbers i = slice_index_or numbers i (pos 0)

-- how much at most so many corners after the last one add, where the vectors lead from the first corner to each
abbrev pub most_after : List PlanePoint → ℕ → ℕ → ℤ
most_after vectors zero last = pos 0
most_after vectors (suc more) last = greatest_from (λ next. cross (point_at vectors last) (point_at vectors next) +ℤ most_after vectors more next) (last + 1) (length vectors - (last + 1))

-- a row for each number of corners up to one, with a number for each last corner
pub record AreAdded (vectors : List PlanePoint) (layers : ℕ) (rows : List ℤ) : Type 0 where
  pub within : (layers + 1) * length vectors ≤ length rows
  pub each : (layer last : ℕ) → layer ≤ layers → last < length vectors → at rows (layer * length vectors + last) ≡ most_after vectors layer last

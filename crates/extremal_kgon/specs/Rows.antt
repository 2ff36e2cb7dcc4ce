-- The potentials of a layer, from those of the layer before.
use Rattle.std.specs.Prelude.{◌≡◌, ◌⊎◌, ℕ, zero, suc, ◌+◌, ◌^◌, ◌<◌, ℤ, pos, ◌+ℤ◌, ◌≤ℤ◌, List, length, slice_index_or, All}
use Rattle.integers.specs.Size.{Size}
use Rattle.bounds_model.specs.Numbers.{EachBelow}
use Rattle.bounds_model.specs.Plane.{PlanePoint, point_at, cross}

-- twice the area of the triangle over two of the vectors
abbrev pub area_at : List PlanePoint → ℕ → ℕ → ℤ
area_at vectors i j = cross (point_at vectors j) (point_at vectors i)

-- the number at this index of a row
abbrev pub at : List ℤ → ℕ → ℤ
at row i = slice_index_or row i (pos 0)

-- how many pairs of indices below a number there are
abbrev pub pairs_below : ℕ → ℕ
pairs_below zero = 0
pairs_below (suc n) = pairs_below n + n

-- so many areas stand behind the old numbers
pub record AddsAreas (area : ℕ → ℤ) (count : ℕ) (old new : List ℤ) : Type 0 where
  pub as_many : length new ≡ length old + count
  pub same : (k : ℕ) → k < length old → at new k ≡ at old k
  pub each : EachBelow count (λ j. at new (length old + j) ≡ area j)
  pub small : All (Size (2 ^ 39)) old → All (Size (2 ^ 39)) new

-- for each of so many vectors the areas of the triangles over an earlier one and it
pub record AreAreas (vectors : List PlanePoint) (count : ℕ) (areas : List ℤ) : Type 0 where
  pub as_many : length areas ≡ pairs_below count
  pub each : EachBelow count (λ i. EachBelow i (λ j. at areas (pairs_below i + j) ≡ area_at vectors i j))
  pub small : All (Size (2 ^ 39)) areas

-- the number is what an earlier one and its area come to
pub record IsSumAt (area : ℕ → ℤ) (before : List ℤ) (i : ℕ) (u : ℤ) (j : ℕ) : Type 0 where
  pub earlier : j < i
  pub sum : u ≡ (at before j +ℤ area j)

-- the greatest of 0 and what each earlier number and its area come to
pub record IsBestSum (area : ℕ → ℤ) (before : List ℤ) (i : ℕ) (u : ℤ) : Type 0 where
  pub not_negative : pos 0 ≤ℤ u
  pub grows : EachBelow i (λ j. (at before j +ℤ area j) ≤ℤ u)
  pub reached : (u ≡ pos 0) ⊎ ((j : ℕ) × IsSumAt area before i u j)

-- each number is such a greatest one
pub record IsNextRow (vectors : List PlanePoint) (before row : List ℤ) : Type 0 where
  pub as_many : length row ≡ length vectors
  pub each : EachBelow (length row) (λ i. IsBestSum (area_at vectors i) before i (at row i))

-- so many times 0
pub record IsZeroRow (count : ℕ) (row : List ℤ) : Type 0 where
  pub as_many : length row ≡ count
  pub zero : (i : ℕ) → at row i ≡ pos 0

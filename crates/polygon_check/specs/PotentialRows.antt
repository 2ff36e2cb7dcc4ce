-- The potentials of one first corner, layer by layer, and the areas that are added to them.
use Rattle.std.specs.Prelude.{◌≡◌, ℕ, ◌+◌, ◌-◌, ◌*◌, ◌^◌, ◌<◌, ◌≤◌, ℤ, pos, ◌+ℤ◌, ◌≤ℤ◌, List, length, slice_index_or, All}
use Rattle.integers.specs.Size.{Size}
use Rattle.bounds_model.specs.Numbers.{EachBelow}
use Rattle.bounds_model.specs.Plane.{PlanePoint, point_at, cross}
use Rattle.bounds_model.specs.KgonAnswer.{KgonAnswer, potential}

-- the number at this index
abbrev pub at : List ℤ → ℕ → ℤ
at numbers i = slice_index_or numbers i (pos 0)

-- so many numbers stand behind the old ones, and none is large
pub record Adds (size : ℕ) (value : ℕ → ℤ) (count : ℕ) (old new : List ℤ) : Type 0 where
  pub as_many : length new ≡ length old + count
  pub same : (k : ℕ) → k < length old → at new k ≡ at old k
  pub each : EachBelow count (λ j. at new (length old + j) ≡ value j)
  pub small : All (Size size) old → All (Size size) new

-- in each layer, the lowest of which is 0, the potentials of a first corner and each later one
pub record AreRows (a : KgonAnswer) (first : ℕ) (rows : List ℤ) : Type 0 where
  pub as_many : length rows ≡ (a.layers + 1) * (length a.corners - 1 - first)
  pub each : (layer j : ℕ) → layer ≤ a.layers → j < length a.corners - 1 - first → at rows (layer * (length a.corners - 1 - first) + j) ≡ potential a first layer (first + 1 + j)
  pub small : All (Size (2 ^ 43)) rows

-- twice the areas of the triangles over each corner between a first and a last one, seen from the first one
pub record AreAreas (vectors : List PlanePoint) (first last : ℕ) (areas : List ℤ) : Type 0 where
  pub as_many : length areas ≡ last - first - 1
  pub each : EachBelow (length areas) (λ j. at areas j ≡ cross (point_at vectors (first + 1 + j)) (point_at vectors last))
  pub small : All (Size (2 ^ 39)) areas

-- no number from an index on comes with its area to more than this
abbrev pub AreBelow : List ℤ → List ℤ → ℕ → ℤ → Type 0
AreBelow areas rows start most = EachBelow (length areas) (λ j. (at rows (start + j) +ℤ at areas j) ≤ℤ most)

-- in none of so many layers a number comes with its area to more than the number behind them in the next layer
abbrev pub AreRaised : List ℤ → List ℤ → ℕ → ℕ → Type 0
AreRaised areas rows layers width = EachBelow layers (λ layer. AreBelow areas rows (layer * width) (at rows ((layer + 1) * width + length areas)))

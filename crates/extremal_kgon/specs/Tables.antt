-- The potentials for each first corner and each number of triangles, in one list.
use Rattle.std.specs.Prelude.{◌≡◌, ◌⊎◌, ℕ, ◌+◌, ◌-◌, ◌*◌, ◌^◌, ◌<◌, ◌≤◌, nat_lt, if◌then◌else◌, ℤ, pos, ◌+ℤ◌, ◌≤ℤ◌, ◌<ℤ◌, List, length, All}
use Rattle.integers.specs.Size.{Size}
use Rattle.bounds_model.specs.Plane.{PlanePoint, point_at, turn}
use Rattle.bounds_model.specs.KgonAnswer.{pairs_before}
use Rattle.extremal_kgon.specs.declared.table.Best.{Best}
use Rattle.extremal_kgon.specs.Rows.{at}

-- where the potential of a first and a last corner stands in a layer, the first of which is 0
abbrev pub index : ℕ → ℕ → ℕ → ℕ → ℕ → ℕ
index count layers first layer last = layers * pairs_before count first + layer * (count - 1 - first) + (last - first - 1)

-- where the layers before this one end
abbrev pub ending : ℕ → ℕ → ℕ → ℕ → ℕ
ending count layers first layer = layers * pairs_before count first + layer * (count - 1 - first)

-- the potential with so many triangles at most, which is 0 with none
abbrev pub potential_or_zero : ℕ → ℕ → List ℤ → ℕ → ℕ → ℕ → ℤ
potential_or_zero count layers us first layer last = if nat_lt 0 layer then at us (index count layers first (layer - 1) last) else pos 0

-- a potential is another one with a triangle less, and the triangle
pub record IsTriangleMore (corners : List PlanePoint) (layers : ℕ) (us : List ℤ) (first layer last middle : ℕ) : Type 0 where
  pub after : first < middle
  pub before : middle < last
  pub sum : potential_or_zero (length corners) layers us first (layer + 1) last ≡ (potential_or_zero (length corners) layers us first layer middle +ℤ turn (point_at corners first) (point_at corners middle) (point_at corners last))

-- a potential is the greatest of 0 and what triangles make of the layer before
pub record IsPotential (corners : List PlanePoint) (layers : ℕ) (us : List ℤ) (first layer last : ℕ) : Type 0 where
  pub grows : (middle : ℕ) → first < middle → middle < last → (potential_or_zero (length corners) layers us first layer middle +ℤ turn (point_at corners first) (point_at corners middle) (point_at corners last)) ≤ℤ potential_or_zero (length corners) layers us first (layer + 1) last
  pub reached : (potential_or_zero (length corners) layers us first (layer + 1) last ≡ pos 0) ⊎ ((middle : ℕ) × IsTriangleMore corners layers us first layer last middle)

-- the number stands in the list, after layers that are potentials
pub record StandsAt (count layers : ℕ) (us : List ℤ) (best : Best) : Type 0 where
  pub first : best.first < best.last
  pub last : best.last < count
  pub some : 1 ≤ best.layer
  pub layer : best.layer ≤ layers
  pub within : index count layers best.first (best.layer - 1) best.last < length us
  pub is : potential_or_zero count layers us best.first best.layer best.last ≡ best.area

-- the greatest number of the list, if it is not 0
pub record IsBestOf (count layers : ℕ) (us : List ℤ) (best : Best) : Type 0 where
  pub not_negative : pos 0 ≤ℤ best.area
  pub small : Size (2 ^ 43) best.area
  pub above : All (λ u. u ≤ℤ best.area) us
  pub stands : (best.area ≡ pos 0) ⊎ StandsAt count layers us best

-- the number stands at an index of a row
pub record IsFoundAt (row : List ℤ) (first layer : ℕ) (best : Best) (i : ℕ) : Type 0 where
  pub below : i < length row
  pub positive : pos 0 <ℤ best.area
  pub area : best.area ≡ at row i
  pub from : best.first ≡ first
  pub in_layer : best.layer ≡ layer
  pub to : best.last ≡ first + 1 + i

-- the potentials of the first corners up to one, and the greatest of them
pub record IsTable (corners : List PlanePoint) (layers first : ℕ) (us : List ℤ) (best : Best) : Type 0 where
  pub as_many : length us ≡ layers * pairs_before (length corners) first
  pub ends : (a : ℕ) → a < first → ending (length corners) layers a layers ≤ length us
  pub potentials : (a layer last : ℕ) → a < first → layer < layers → a < last → last < length corners → IsPotential corners layers us a layer last
  pub greatest : IsBestOf (length corners) layers us best
  pub begun : best.first ≤ first
  pub none : best.area ≡ pos 0 → best.first ≡ 0
  pub earlier : (a layer last : ℕ) → a < best.first → layer < layers → a < last → last < length corners → potential_or_zero (length corners) layers us a (layer + 1) last <ℤ best.area

-- the greatest number was found in a row, or none is greater than that before
pub record TakesBest (old : Best) (row : List ℤ) (first layer : ℕ) (new : Best) : Type 0 where
  pub small : Size (2 ^ 43) new.area
  pub rises : old.area ≤ℤ new.area
  pub above : All (λ u. u ≤ℤ new.area) row
  pub one : (new ≡ old) ⊎ ((i : ℕ) × IsFoundAt row first layer new i × (old.area <ℤ new.area))

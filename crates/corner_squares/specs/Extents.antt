-- The least and the greatest coordinate of the points seen so far that no square contains.
use Rattle.std.specs.Prelude.{◌≡◌, ◌⊎◌, ℕ, ◌<◌, List, length, Option, Some, None, ℤ, pos, ◌+ℤ◌, ◌≤ℤ◌, ◌<ℤ◌}
use Rattle.bounds_model.specs.Numbers.{IsWithin}
use Rattle.bounds_model.specs.Plane.{PlanePoint, point_at, plane_limit}
use Rattle.corner_squares.specs.declared.square.Square.{Square}
use Rattle.corner_squares.specs.declared.extent.Extent.{Extent}
use Rattle.corner_squares.specs.declared.bounds.Bounds.{Bounds}
use Rattle.corner_squares.specs.Squares.{IsCovered}

-- one coordinate more was seen, at the point of this number: it replaces the least one where it is below it, and the greatest one where it is above it
pub record Sees (old : Extent) (value : ℤ) (number : ℕ) (new : Extent) : Type 0 where
  pub low : ((old.low ≤ℤ value) × (new.low ≡ old.low) × (new.low_at ≡ old.low_at)) ⊎ ((value <ℤ old.low) × (new.low ≡ value) × (new.low_at ≡ number))
  pub high : ((value ≤ℤ old.high) × (new.high ≡ old.high) × (new.high_at ≡ old.high_at)) ⊎ ((old.high <ℤ value) × (new.high ≡ value) × (new.high_at ≡ number))

-- the ends are in order, and within the bounds of points
pub record IsPlaneExtent (e : Extent) : Type 0 where
  pub low : IsWithin plane_limit e.low
  pub high : IsWithin plane_limit e.high
  pub order : e.low ≤ℤ e.high

-- the point of this number has this coordinate, and no square contains it
pub record HasAt (of : PlanePoint → ℤ) (points : List PlanePoint) (squares : List Square) (number : ℕ) (value : ℤ) : Type 0 where
  pub below : number < length points
  pub free : ¬ IsCovered squares (point_at points number)
  pub has : of (point_at points number) ≡ value

-- the value is between the ends
abbrev pub IsInside : Extent → ℤ → Type 0
IsInside e value = (e.low ≤ℤ value) × (value ≤ℤ e.high)

-- the ends are at most so far apart
abbrev pub IsShort : ℕ → Extent → Type 0
IsShort limit e = e.high ≤ℤ (e.low +ℤ pos limit)

-- the extent reaches from the least to the greatest coordinate of the points that no square contains
pub record IsSpan (of : PlanePoint → ℤ) (points : List PlanePoint) (squares : List Square) (e : Extent) : Type 0 where
  pub inside : (k : ℕ) → k < length points → IsCovered squares (point_at points k) ⊎ IsInside e (of (point_at points k))
  pub low_at : HasAt of points squares e.low_at e.low
  pub high_at : HasAt of points squares e.high_at e.high
  pub plane : IsPlaneExtent e

-- the box is the bounding box of the points that no square contains
pub record IsRestBox (points : List PlanePoint) (squares : List Square) (b : Bounds) : Type 0 where
  pub across : IsSpan (λ p. p.x) points squares b.across
  pub up : IsSpan (λ p. p.y) points squares b.up

-- the box is at most so long, in x and in y
pub record IsNoLonger (limit : ℕ) (b : Bounds) : Type 0 where
  pub in_x : IsShort limit b.across
  pub in_y : IsShort limit b.up

-- the extent reaches from the least to the greatest coordinate of the first i points, as far as no square contains them, and names the first of the points that have them
pub record IsExtent (of : PlanePoint → ℤ) (points : List PlanePoint) (squares : List Square) (i : ℕ) (e : Extent) : Type 0 where
  pub inside : (k : ℕ) → k < i → IsCovered squares (point_at points k) ⊎ IsInside e (of (point_at points k))
  pub low_at : HasAt of points squares e.low_at e.low
  pub high_at : HasAt of points squares e.high_at e.high
  pub low_seen : e.low_at < i
  pub high_seen : e.high_at < i
  pub low_first : (k : ℕ) → k < e.low_at → IsCovered squares (point_at points k) ⊎ (e.low <ℤ of (point_at points k))
  pub high_first : (k : ℕ) → k < e.high_at → IsCovered squares (point_at points k) ⊎ (of (point_at points k) <ℤ e.high)
  pub plane : IsPlaneExtent e

-- the box is the bounding box of the first i points, as far as no square contains them
pub record IsBox (points : List PlanePoint) (squares : List Square) (i : ℕ) (b : Bounds) : Type 0 where
  pub across : IsExtent (λ p. p.x) points squares i b.across
  pub up : IsExtent (λ p. p.y) points squares i b.up

-- the box of the first point, or of one point more
abbrev pub Adds : Option Bounds → PlanePoint → ℕ → Bounds → Type 0
Adds None p number new = (new.across ≡ record { low = p.x; high = p.x; low_at = number; high_at = number }) × (new.up ≡ record { low = p.y; high = p.y; low_at = number; high_at = number })
Adds (Some old) p number new = Sees old.across p.x number new.across × Sees old.up p.y number new.up

-- the first i points are all covered, or the box is that of the others
abbrev pub IsFound : List PlanePoint → List Square → ℕ → Option Bounds → Type 0
IsFound points squares i None = (k : ℕ) → k < i → IsCovered squares (point_at points k)
IsFound points squares i (Some b) = IsBox points squares i b

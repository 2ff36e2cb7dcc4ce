-- The first of the best strips, rectangles and polygons.
use Rattle.std.specs.Prelude.{◌≡◌, ◌⊎◌, ⊤, ℕ, ◌<◌, pos, ◌≤ℤ◌, ◌<ℤ◌, List, [], ◌∷◌}
use Rattle.bounds_model.specs.Plane.{PlanePoint, quarter_turn, cross}
use Rattle.bounds_model.specs.Fractions.{HaveNoCommonFactor}
use Rattle.bounds_model.specs.Best.{IsSmallest, IsGreatest}
use Rattle.bounds_model.specs.Strip.{Strip, FitsStrip, strip_size, AreTight}
use Rattle.bounds_model.specs.Rectangle.{Rectangle, FitsRectangle, rectangle_size}
use Rattle.bounds_model.specs.Kgon.{FitsKgon, kgon_size}

-- a direction from the east on, before the west
abbrev pub IsInHalfTurn : PlanePoint → Type 0
IsInHalfTurn u = (pos 0 <ℤ u.y) ⊎ ((u.y ≡ pos 0) × (pos 0 <ℤ u.x))

-- a direction from the east on, before the north
pub record IsInQuarterTurn (u : PlanePoint) : Type 0 where
  pub right : pos 0 <ℤ u.x
  pub up : pos 0 ≤ℤ u.y

-- of two directions within half a turn, the second does not come before the first
abbrev pub IsNotAfter : PlanePoint → PlanePoint → Type 0
IsNotAfter u v = pos 0 ≤ℤ cross u v

-- a best strip whose normal, in lowest terms, comes first of the normals of best strips, with the least and the greatest product as its bounds
pub record IsFirstStrip (points : List PlanePoint) (strip : Strip) : Type 0 where
  pub best : IsSmallest (FitsStrip points) strip_size strip
  pub in_turn : IsInHalfTurn strip.normal
  pub lowest : HaveNoCommonFactor (strip.normal.x ∷ strip.normal.y ∷ [])
  pub first : (other : Strip) → IsSmallest (FitsStrip points) strip_size other → IsInHalfTurn other.normal → IsNotAfter strip.normal other.normal
  pub tight : AreTight points strip.normal strip.bounds
  pub over_one : strip.w ≡ pos 1

-- a best rectangle whose direction, in lowest terms, comes first of the directions of best rectangles, with the least and the greatest products as its bounds
pub record IsFirstRectangle (points : List PlanePoint) (rectangle : Rectangle) : Type 0 where
  pub best : IsSmallest (FitsRectangle points) rectangle_size rectangle
  pub in_turn : IsInQuarterTurn rectangle.direction
  pub lowest : HaveNoCommonFactor (rectangle.direction.x ∷ rectangle.direction.y ∷ [])
  pub first : (other : Rectangle) → IsSmallest (FitsRectangle points) rectangle_size other → IsInQuarterTurn other.direction → IsNotAfter rectangle.direction other.direction
  pub tight_along : AreTight points rectangle.direction rectangle.along
  pub tight_across : AreTight points (quarter_turn rectangle.direction) rectangle.across
  pub over_one : rectangle.w ≡ pos 1

-- the first list is the second one, or comes before it in the order of their first different elements, or is the beginning of it
abbrev pub ComesFirst : List ℕ → List ℕ → Type 0
ComesFirst [] other = ⊤
ComesFirst (i ∷ rest) [] = ⊥
ComesFirst (i ∷ rest) (j ∷ others) = (i < j) ⊎ ((i ≡ j) × ComesFirst rest others)

-- the positions of a best polygon that come first of those of best polygons
pub record IsFirstKgon (k : ℕ) (corners : List PlanePoint) (positions : List ℕ) : Type 0 where
  pub best : IsGreatest (FitsKgon k corners) (kgon_size corners) positions
  pub first : (other : List ℕ) → IsGreatest (FitsKgon k corners) (kgon_size corners) other → ComesFirst positions other

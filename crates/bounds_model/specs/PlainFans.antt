-- Fans with no more directions than the hull calls for.
use Rattle.std.specs.Prelude.{◌≡◌, ◌≢◌, ◌⊎◌, ℕ, ◌+◌, ◌<◌, pos, ◌<ℤ◌, List, [], ◌∷◌, length, All, Any, Contains, EachIndex, SomeIndex}
use Rattle.bounds_model.specs.Plane.{PlanePoint, origin, point_at, vector, dot, cross}
use Rattle.bounds_model.specs.Fractions.{HaveNoCommonFactor}
use Rattle.bounds_model.specs.Hull.{around}
use Rattle.bounds_model.specs.Fans.{TurnLeft, east, north, west}

-- the edge of the hull from the corner of this number to the next
abbrev pub edge : List PlanePoint → ℕ → PlanePoint
edge corners i = vector (around corners i) (around corners (i + 1))

-- the direction is at right angles to an edge that has a length
pub record IsNormal (edge direction : PlanePoint) : Type 0 where
  pub long : edge ≢ origin
  pub right_angle : dot edge direction ≡ pos 0

-- the direction is at right angles to an edge that has a length, or along it
pub record IsNormalOrParallel (edge direction : PlanePoint) : Type 0 where
  pub long : edge ≢ origin
  pub normal_or_parallel : (dot edge direction ≡ pos 0) ⊎ (cross edge direction ≡ pos 0)

-- P holds of each direction but the first and the last
abbrev pub EachInner : List PlanePoint → (PlanePoint → Type 0) → Type 0
EachInner directions P = (i : ℕ) → 0 < i → i + 1 < length directions → P (point_at directions i)

-- the directions are in lowest terms
abbrev pub AreLowest : List PlanePoint → Type 0
AreLowest directions = All (λ d. HaveNoCommonFactor (d.x ∷ d.y ∷ [])) directions

-- a fan over half a turn has its ends, the upward direction and those at right angles to the edges, each once, and no others
pub record IsPlainHalf (corners directions : List PlanePoint) : Type 0 where
  pub once : TurnLeft east west directions
  pub lowest : AreLowest directions
  pub in_range : EachInner directions (λ d. pos 0 <ℤ d.y)
  pub up : Contains directions north
  pub edges : EachIndex corners (λ i. edge corners i ≢ origin → Any (IsNormal (edge corners i)) directions)
  pub no_others : EachInner directions (λ d. (d ≡ north) ⊎ SomeIndex corners (λ i. IsNormal (edge corners i) d))

-- a fan over a quarter turn has its ends and the directions at right angles to the edges and along them, each once, and no others
pub record IsPlainQuarter (corners directions : List PlanePoint) : Type 0 where
  pub once : TurnLeft east north directions
  pub lowest : AreLowest directions
  pub in_range : EachInner directions (λ d. (pos 0 <ℤ d.x) × (pos 0 <ℤ d.y))
  pub edges : EachIndex corners (λ i. edge corners i ≢ origin → Any (IsNormalOrParallel (edge corners i)) directions)
  pub no_others : EachInner directions (λ d. SomeIndex corners (λ i. IsNormalOrParallel (edge corners i) d))

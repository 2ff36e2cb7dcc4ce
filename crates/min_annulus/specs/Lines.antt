-- Points on one line.
use Rattle.std.specs.Prelude.{◌≡◌, ℕ, ◌^◌, ◌<◌, ℤ, pos, ◌+ℤ◌, ◌*ℤ◌, ◌≤ℤ◌, List, All, length}
use Rattle.bounds_model.specs.Plane.{PlanePoint, PlaneRatio, point_at, turn, IsLeastPoint, IsGreatestPoint}
use Rattle.bounds_model.specs.Space.{SamePlace, flat_ratio}
use Rattle.min_annulus.specs.DifferenceVectors.{difference_of, cross}
use Rattle.min_annulus.specs.LinearForms.{centre_of, middle_form}

-- a point's rank in the order by x, then y
abbrev pub rank : PlanePoint → ℤ
rank p = pos (2 ^ 19) *ℤ p.x +ℤ p.y

-- points on one line, and the numbers of the least and of the greatest one
pub record AreCollinear (points : List PlanePoint) (first last : ℕ) : Type 0 where
  pub first_listed : first < length points
  pub last_listed : last < length points
  pub least : (i : ℕ) → i < length points → rank (point_at points first) ≤ℤ rank (point_at points i)
  pub greatest : (i : ℕ) → i < length points → rank (point_at points i) ≤ℤ rank (point_at points last)
  pub line : (i : ℕ) → i < length points
      → cross (difference_of (point_at points last) (point_at points first)) (difference_of (point_at points i) (point_at points first)) ≡ pos 0

-- where all points are on one line, the centre is the middle between the least and the greatest of them
abbrev pub HasMiddle : List PlanePoint → PlaneRatio → Type 0
HasMiddle points centre =
    (a b : PlanePoint) → IsLeastPoint points a → IsGreatestPoint points b → All (λ p. turn a b p ≡ pos 0) points
    → SamePlace (flat_ratio centre) (flat_ratio (record { x = a.x +ℤ b.x; y = a.y +ℤ b.y; w = pos 2 }))

-- the middle between two points by their numbers
abbrev pub IsMiddle : List PlanePoint → ℕ → ℕ → PlaneRatio → Type 0
IsMiddle points least greatest c = SamePlace (flat_ratio c) (flat_ratio (centre_of (middle_form (point_at points least) (point_at points greatest))))

-- The answers on empty rectangles, and what a checker asks of them.
use Rattle.std.specs.Prelude.{◌≡◌, ℕ, ◌+◌, ◌<◌, ℤ, pos, ◌*ℤ◌, ◌≤ℤ◌, ◌<ℤ◌, List, length, All}
use Rattle.bounds_model.specs.Plane.{PlanePoint, point_at}
use Rattle.bounds_model.specs.Fractions.{Fraction, SameValue}
use Rattle.bounds_model.specs.EmptyRectangle.{Box, EmptyRectangle, IsStrictlyInside, area, empty_size}
use Rattle.bounds_model.specs.Ranges.{IsFraction, IsNumber, point_limit}

-- what a side rests on: the side of the frame, or the point of this number
pub data Blocker : Type 0 where
  side : Blocker
  point : ℕ → Blocker

-- an axis-parallel rectangle, and what each of its sides rests on
pub record EmptyAnswer : Type 0 where
  pub size : Fraction
  pub box : Box
  pub left : Blocker
  pub bottom : Blocker
  pub right : Blocker
  pub top : Blocker

-- the rectangle with these sides
abbrev pub empty_of : EmptyAnswer → EmptyRectangle
empty_of a = record { box = a.box; w = pos 1 }

-- the number of a blocker is below a bound
abbrev pub IsBlockerBelow : ℕ → Blocker → Type 0
IsBlockerBelow bound side = Unit {0}
IsBlockerBelow bound (point number) = number < bound

-- all numbers are in their ranges
pub record EmptyRanges (a : EmptyAnswer) : Type 0 where
  pub size : IsFraction a.size
  pub box_left : IsNumber a.box.left
  pub box_bottom : IsNumber a.box.bottom
  pub box_right : IsNumber a.box.right
  pub box_top : IsNumber a.box.top
  pub left : IsBlockerBelow (point_limit + 1) a.left
  pub bottom : IsBlockerBelow (point_limit + 1) a.bottom
  pub right : IsBlockerBelow (point_limit + 1) a.right
  pub top : IsBlockerBelow (point_limit + 1) a.top

-- the numbers of blockers are numbers of points
pub record NamesBlockers (points : List PlanePoint) (a : EmptyAnswer) : Type 0 where
  pub left : IsBlockerBelow (length points) a.left
  pub bottom : IsBlockerBelow (length points) a.bottom
  pub right : IsBlockerBelow (length points) a.right
  pub top : IsBlockerBelow (length points) a.top

-- a vertical side at x from low to high rests on the frame's side or on a point between its ends
abbrev pub BlocksVertical : List PlanePoint → ℤ → ℤ → ℤ → ℤ → Blocker → Type 0
BlocksVertical points frame_x x low high side = x ≡ frame_x
BlocksVertical points frame_x x low high (point number) = ((point_at points number).x ≡ x) × (low <ℤ (point_at points number).y) × ((point_at points number).y <ℤ high)

-- a level side at y from low to high rests on the frame's side or on a point between its ends
abbrev pub BlocksLevel : List PlanePoint → ℤ → ℤ → ℤ → ℤ → Blocker → Type 0
BlocksLevel points frame_y y low high side = y ≡ frame_y
BlocksLevel points frame_y y low high (point number) = ((point_at points number).y ≡ y) × (low <ℤ (point_at points number).x) × ((point_at points number).x <ℤ high)

-- each side rests on what the answer says
pub record AreBlocked (frame : Box) (points : List PlanePoint) (a : EmptyAnswer) : Type 0 where
  pub left : BlocksVertical points frame.left a.box.left a.box.bottom a.box.top a.left
  pub bottom : BlocksLevel points frame.bottom a.box.bottom a.box.left a.box.right a.bottom
  pub right : BlocksVertical points frame.right a.box.right a.box.bottom a.box.top a.right
  pub top : BlocksLevel points frame.top a.box.top a.box.left a.box.right a.top

-- P holds of each height: the bottom and the top of the frame, and the y of each point strictly inside it
pub record EachY (frame : Box) (points : List PlanePoint) (P : ℤ → Type 0) : Type 0 where
  pub bottom : P frame.bottom
  pub top : P frame.top
  pub inside : All (λ p. IsStrictlyInside frame p → P p.y) points

-- P holds of each x along a band: its left and its right, and the x of each point strictly inside it
pub record EachX (band : Box) (points : List PlanePoint) (P : ℤ → Type 0) : Type 0 where
  pub left : P band.left
  pub right : P band.right
  pub inside : All (λ p. IsStrictlyInside band p → P p.x) points

-- no point is strictly inside the box
abbrev pub IsEmpty : List PlanePoint → Box → Type 0
IsEmpty points box = All (λ p. ¬ IsStrictlyInside box p) points

-- where the box has a width and no point is strictly inside it, its area is at most the size
abbrev pub IsNotLarger : List PlanePoint → Fraction → Box → Type 0
IsNotLarger points size box = box.left <ℤ box.right → IsEmpty points box → (area box *ℤ size.d) ≤ℤ size.n

-- in a band no box from one x to the next is larger than the size
abbrev pub NoneLargerInBand : List PlanePoint → Fraction → Box → Type 0
NoneLargerInBand points size band = EachX band points (λ left. EachX band points (λ right. IsNotLarger points size (record band { left = left; right = right })))

-- between every two heights no box from one x to the next is larger than the size
abbrev pub NoneLarger : Box → List PlanePoint → Fraction → Type 0
NoneLarger frame points size = EachY frame points (λ bottom. EachY frame points (λ top. bottom <ℤ top → NoneLargerInBand points size (record frame { bottom = bottom; top = top })))

-- what a checker asks of an empty rectangle
pub record PassesEmpty (frame : Box) (points : List PlanePoint) (a : EmptyAnswer) : Type 0 where
  pub ranges : EmptyRanges a
  pub numbers : NamesBlockers points a
  pub in_left : frame.left ≤ℤ a.box.left
  pub wide : a.box.left <ℤ a.box.right
  pub in_right : a.box.right ≤ℤ frame.right
  pub in_bottom : frame.bottom ≤ℤ a.box.bottom
  pub high : a.box.bottom <ℤ a.box.top
  pub in_top : a.box.top ≤ℤ frame.top
  pub empty : IsEmpty points a.box
  pub size : SameValue a.size (empty_size (empty_of a))
  pub blocked : AreBlocked frame points a
  pub none_larger : NoneLarger frame points a.size

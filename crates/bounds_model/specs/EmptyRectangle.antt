-- Axis-parallel rectangles inside a frame with no point strictly inside.
use Rattle.std.specs.Prelude.{ℤ, pos, ◌-ℤ◌, ◌*ℤ◌, ◌≤ℤ◌, ◌<ℤ◌, List, All}
use Rattle.bounds_model.specs.Numbers.{IsWithin}
use Rattle.bounds_model.specs.Plane.{PlanePoint, times, plane_limit}
use Rattle.bounds_model.specs.Fractions.{Fraction}

-- an axis-parallel rectangle
pub record Box : Type 0 where
  pub left : ℤ
  pub bottom : ℤ
  pub right : ℤ
  pub top : ℤ

-- a frame: a box whose numbers are in bounds, and which has an inside
pub record IsFrame (box : Box) : Type 0 where
  pub left : IsWithin plane_limit box.left
  pub bottom : IsWithin plane_limit box.bottom
  pub right : IsWithin plane_limit box.right
  pub top : IsWithin plane_limit box.top
  pub wide : box.left <ℤ box.right
  pub high : box.bottom <ℤ box.top

-- the point is inside, and on no side
pub record IsStrictlyInside (box : Box) (p : PlanePoint) : Type 0 where
  pub after_left : box.left <ℤ p.x
  pub before_right : p.x <ℤ box.right
  pub above_bottom : box.bottom <ℤ p.y
  pub below_top : p.y <ℤ box.top

-- a box whose numbers are divided by w
pub record EmptyRectangle : Type 0 where
  pub box : Box
  pub w : ℤ

-- the rectangle lies in the frame, and no point is strictly inside it
pub record FitsEmpty (frame : Box) (points : List PlanePoint) (rectangle : EmptyRectangle) : Type 0 where
  pub denominator : pos 1 ≤ℤ rectangle.w
  pub width : rectangle.box.left ≤ℤ rectangle.box.right
  pub height : rectangle.box.bottom ≤ℤ rectangle.box.top
  pub left : (rectangle.w *ℤ frame.left) ≤ℤ rectangle.box.left
  pub right : rectangle.box.right ≤ℤ (rectangle.w *ℤ frame.right)
  pub bottom : (rectangle.w *ℤ frame.bottom) ≤ℤ rectangle.box.bottom
  pub top : rectangle.box.top ≤ℤ (rectangle.w *ℤ frame.top)
  pub empty : All (λ p. ¬ IsStrictlyInside rectangle.box (times rectangle.w p)) points

-- the area of a box
abbrev pub area : Box → ℤ
area box = (box.right -ℤ box.left) *ℤ (box.top -ℤ box.bottom)

-- the area, with the box's numbers divided by w
abbrev pub empty_size : EmptyRectangle → Fraction
empty_size rectangle = record { n = area rectangle.box; d = rectangle.w *ℤ rectangle.w }

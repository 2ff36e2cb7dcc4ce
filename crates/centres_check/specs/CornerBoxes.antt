-- The bounding boxes of what squares and one more in a corner leave over.
use Rattle.std.specs.Prelude.{◌≡◌, ◌⊎◌, ℕ, ◌%◌, ◌/◌, ◌==◌, pos, ◌-ℤ◌, Option, Some, IsTrue, if◌then◌else◌}
use Rattle.bounds_model.specs.Plane.{PlanePoint, IsInPlane}
use Rattle.bounds_model.specs.CentresAnswer.{contains}
use Rattle.corner_squares.specs.declared.square.Square.{Square}
use Rattle.corner_squares.specs.declared.bounds.Bounds.{Bounds}
use Rattle.corner_squares.specs.Squares.{square_of}
use Rattle.corner_squares.specs.Extents.{Adds}

-- the square of this side in a corner of the box
abbrev pub square_in : ℕ → ℕ → Bounds → Square
square_in side corner b = record {
  left = if corner % 2 == 0 then b.across.low else (b.across.high -ℤ pos side);
  bottom = if corner / 2 == 0 then b.up.low else (b.up.high -ℤ pos side);
  side = side;
}

-- the box stays where the square contains the point, and else has that point too
abbrev pub GrowsOutside : Square → PlanePoint → ℕ → Option Bounds → Option Bounds → Type 0
GrowsOutside s p number old new =
    (IsTrue (contains (square_of s) p) × (new ≡ old)) ⊎ ((¬ IsTrue (contains (square_of s) p)) × IsInPlane p × (b : Bounds) × (new ≡ Some b) × Adds old p number b)

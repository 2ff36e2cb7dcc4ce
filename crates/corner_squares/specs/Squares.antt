-- Squares that are put down one after another, and the points that they leave.
use Rattle.std.specs.Prelude.{List, [], ◌∷◌, Any, IsTrue}
use Rattle.bounds_model.specs.Plane.{PlanePoint}
use Rattle.bounds_model.specs.CentresAnswer as model
use Rattle.corner_squares.specs.declared.square.Square.{Square}

-- the square in the words of the model
abbrev pub square_of : Square → model.Square
square_of s = record { left = s.left; bottom = s.bottom; side = s.side }

-- one of the squares contains the point
abbrev pub IsCovered : List Square → PlanePoint → Type 0
IsCovered squares p = Any (λ s. IsTrue (model.contains (square_of s) p)) squares

-- the points that none of the squares contains
abbrev pub left_over : List Square → List PlanePoint → List PlanePoint
left_over [] points = points
left_over (s ∷ rest) points = left_over rest (model.outside (square_of s) points)

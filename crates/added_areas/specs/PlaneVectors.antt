-- Vectors of the plane in machine numbers.
use Rattle.std.specs.Prelude.{◌≡◌, ℕ, List, length, All}
use Rattle.integers.specs.Size.{Size}
use Rattle.bounds_model.specs.Numbers.{AllNumbered}
use Rattle.bounds_model.specs.Plane.{PlanePoint, point_at, vector}
use Rattle.added_areas.specs.declared.vectors.PlaneVector.{PlaneVector}

-- the vector
abbrev pub vector_of : PlaneVector → PlanePoint
vector_of v = record { x = v.x; y = v.y }

-- no longer than two points of the plane are apart in x and in y
pub record IsShort (v : PlaneVector) : Type 0 where
  pub x : Size 400000 v.x
  pub y : Size 400000 v.y

-- the vectors from the first corner to each corner
pub record AreVectorsFrom (corners : List PlanePoint) (first : ℕ) (vectors : List PlaneVector) : Type 0 where
  pub as_many : length vectors ≡ length corners
  pub each : AllNumbered (λ j v. vector_of v ≡ vector (point_at corners first) (point_at corners j)) vectors
  pub short : All IsShort vectors

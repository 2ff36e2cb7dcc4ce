-- The vectors from a corner to the later ones.
use Rattle.std.specs.Prelude.{◌≡◌, ℕ, ◌+◌, List, length, All}
use Rattle.bounds_model.specs.Numbers.{AllNumbered}
use Rattle.bounds_model.specs.Plane.{PlanePoint, point_at, vector}
use Rattle.added_areas.specs.declared.vectors.PlaneVector.{PlaneVector}
use Rattle.added_areas.specs.PlaneVectors.{vector_of, IsShort}

-- the vectors from the first corner to those after it, in order
pub record AreVectorsAfter (corners : List PlanePoint) (first : ℕ) (vectors : List PlaneVector) : Type 0 where
  pub as_many : first + 1 + length vectors ≡ length corners
  pub each : AllNumbered (λ j v. vector_of v ≡ vector (point_at corners first) (point_at corners (first + 1 + j))) vectors
  pub short : All IsShort vectors

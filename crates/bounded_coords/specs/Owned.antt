-- The point sets that a file's sets own.
use Rattle.std.specs.Prelude.{◌≢◌, ⊤, List, [], ◌∷◌}
use Rattle.bounds_model.specs.Plane.{PlanePoint}
use Rattle.bounds_model.specs.Asks.{Sets, plane, space, two, bare}
use Rattle.bounded_coords.specs.declared.owned_sets.Owned.{Owned}
use Rattle.bounded_coords.specs.declared.owned_sets.Owned.TheVariants.{Plane, Space, Two}

-- one set of the plane with these points
abbrev pub set_of_plane : List PlanePoint → Sets
set_of_plane [] = bare
set_of_plane (p ∷ points) = plane (p ∷ points)

-- the sets
abbrev pub owned : Owned → Sets
owned (Plane points) = set_of_plane points
owned (Space points) = space points
owned (Two ps qs) = two ps qs

-- sets of space have points
abbrev pub HasSpacePoints : Owned → Type 0
HasSpacePoints (Plane points) = ⊤
HasSpacePoints (Space points) = points ≢ []
HasSpacePoints (Two ps qs) = (ps ≢ []) × (qs ≢ [])

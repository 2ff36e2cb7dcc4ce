-- Points by their numbers.
use Rattle.std.proofs.Common.{◌≡◌, sym, ℕ}
use Rattle.std.specs.Prelude.{List, slice_get, Some}
use Rattle.std.proofs.lemmas.Option.{get_or_from_slice_get}
use Rattle.bounds_model.specs.Plane.{PlanePoint, point_at, origin}

-- a point that is there has its number
pub point_is : (points : List PlanePoint) (i : ℕ) (p : PlanePoint) → slice_get points i ≡ Some p → p ≡ point_at points i
point_is points i p is_there = sym (get_or_from_slice_get points i p origin is_there)

-- The least point, which the first of four squares covers.
use Rattle.std.specs.Prelude.{◌≡◌, ◌⊎◌, List}
use Rattle.bounds_model.specs.Numbers.{IsWithin}
use Rattle.bounds_model.specs.Plane.{PlanePoint, plane_limit, IsBefore, IsLeastPoint}
use Rattle.corner_squares.specs.declared.least.Least.{Least}

-- the place as a point
abbrev pub point_of : Least → PlanePoint
point_of least = record { x = least.x; y = least.y }

-- the place of the least point, which is in bounds
pub record IsLeastAt (points : List PlanePoint) (least : Least) : Type 0 where
  pub is_least : IsLeastPoint points (point_of least)
  pub x : IsWithin plane_limit least.x
  pub y : IsWithin plane_limit least.y

-- the place stays where it is before the point, or the point is before it
abbrev pub IsLesser : Least → PlanePoint → Least → Type 0
IsLesser old p new = ((new ≡ old) × IsBefore (point_of old) p) ⊎ ((point_of new ≡ p) × IsBefore p (point_of old))

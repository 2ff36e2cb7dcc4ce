-- How far points reach in a direction.
use Rattle.std.proofs.Common.{ℕ, ◌<◌, ℤ, pos, ◌+ℤ◌, ◌-ℤ◌, ◌*ℤ◌, ◌≤ℤ◌, List, [], ◌∷◌, length}
use Rattle.integers.proofs.Identities.{den-ring, read, polys, lits}
use Rattle.integers.proofs.Order.{le_by, nonneg_difference}
use Rattle.bounds_model.specs.Plane.{PlanePoint, origin, point_at}
use Rattle.bounds_model.specs.Fans.{HalfCone, AreExtreme, reach}

-- any cone, for reading past the end of a list
pub no_cone : HalfCone
no_cone = record { direction = origin; high = 0; low = 0 }

-- a highest point is not below another
pub reach_nonneg : (points : List PlanePoint) (d : PlanePoint) (high low : ℕ) → low < length points → AreExtreme points d high low → pos 0 ≤ℤ reach points d high low
reach_nonneg points d high low named extreme =
    plain d.x d.y (point_at points low).x (point_at points low).y (point_at points high).x (point_at points high).y (extreme.highest low origin named)
  where
    plain : (dx dy px py qx qy : ℤ) → (dx *ℤ px +ℤ dy *ℤ py) ≤ℤ (dx *ℤ qx +ℤ dy *ℤ qy) → pos 0 ≤ℤ (dx *ℤ (qx -ℤ px) +ℤ dy *ℤ (qy -ℤ py))
    plain dx dy px py qx qy h = le_by (nonneg_difference h) (read (dx ∷ dy ∷ px ∷ py ∷ qx ∷ qy ∷ []) (λ xs a b c d e f. simp (a, b, c, d, e, f, polys, lits xs) (den-ring xs _ _ tt)))

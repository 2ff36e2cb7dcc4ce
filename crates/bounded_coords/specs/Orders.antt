-- The order of points of space.
use Rattle.std.specs.Prelude.{◌≡◌, ◌⊎◌, ◌<ℤ◌, ◌≤ℤ◌}
use Rattle.bounds_model.specs.Space.{SpacePoint}

-- by x, then by y, then by z
abbrev pub IsBeforeInSpace : SpacePoint → SpacePoint → Type 0
IsBeforeInSpace a b = (a.x <ℤ b.x) ⊎ ((a.x ≡ b.x) × ((a.y <ℤ b.y) ⊎ ((a.y ≡ b.y) × (a.z ≤ℤ b.z))))

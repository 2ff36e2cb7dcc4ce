-- The numbers of a point file, clamped past the limit of all coordinates.
use Rattle.std.specs.Prelude.{ℕ, ℤ}
use Rattle.bounds_model.specs.Plane.{plane_limit}
use Rattle.byte_tools.specs.Clamps as tools

-- the magnitude, or the first one past every bound where it is greater
abbrev pub clamped_size : ℕ → ℕ
clamped_size n = tools.clamped_size plane_limit n

-- the number with its magnitude clamped
abbrev pub clamped : ℤ → ℤ
clamped z = tools.clamped plane_limit z

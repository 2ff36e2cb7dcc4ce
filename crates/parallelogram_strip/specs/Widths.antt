-- Widths along the directions of a fan.
use Rattle.std.specs.Prelude.{◌≡◌, ◌*◌, ◌<◌, ◌≤◌, pos, List, length}
use Rattle.bounds_model.specs.Plane.{PlanePoint, squared_length}
use Rattle.bounds_model.specs.Fans.{HalfFan}
use Rattle.parallelogram_strip.specs.FullTurn.{cone_at}
use Rattle.parallelogram_strip.specs.Crossings.{reach_of}
use Rattle.parallelogram_strip.specs.declared.thinnest.Width.{Width}

-- the reach along a direction of the fan, and the direction's squared length
pub record IsWidth (points : List PlanePoint) (fan : HalfFan) (w : Width) : Type 0 where
  pub listed : w.direction < length fan.cones
  pub is_reach : pos w.reach ≡ reach_of points (cone_at fan w.direction).direction (cone_at fan w.direction)
  pub is_length : pos w.length ≡ squared_length (cone_at fan w.direction).direction
  pub some : 0 < w.length
  pub reach_limit : w.reach ≤ 320000000000
  pub length_limit : w.length ≤ 320000000000

-- the width of the one is below that of the other
abbrev pub IsThinner : Width → Width → Type 0
IsThinner a b = a.reach * a.reach * b.length < b.reach * b.reach * a.length

-- the width of the one is not above that of the other
abbrev pub IsNotWider : Width → Width → Type 0
IsNotWider a b = a.reach * a.reach * b.length ≤ b.reach * b.reach * a.length

-- What a fan has to have for rectangles.
use Rattle.std.specs.Prelude.{ℕ, List, All, slice_index_or}
use Rattle.bounds_model.specs.Plane.{PlanePoint, origin}
use Rattle.bounds_model.specs.Fans.{QuarterFan, QuarterCone, quarter_directions, HoldsQuarter, QuarterRanges, IsShort}
use Rattle.bounds_model.specs.PlainFans.{AreLowest}

-- a fan over a quarter turn that holds for the points, whose directions are in lowest terms
pub record IsPlainFan (points : List PlanePoint) (fan : QuarterFan) : Type 0 where
  pub holds : HoldsQuarter points fan
  pub lowest : AreLowest (quarter_directions fan)
  pub ranges : QuarterRanges fan
  pub short : All IsShort (quarter_directions fan)

-- any cone, for reading past the end of a list
abbrev pub no_cone : QuarterCone
no_cone = record { direction = origin; high = 0; low = 0; over = 0; under = 0 }

-- the cone of this number
abbrev pub cone_at : QuarterFan → ℕ → QuarterCone
cone_at fan i = slice_index_or fan.cones i no_cone

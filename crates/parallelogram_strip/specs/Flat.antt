-- Whether the points have an extent along each direction of a fan.
use Rattle.std.specs.Prelude.{◌≡◌, ℕ, ◌<◌, pos, ◌<ℤ◌, List, length}
use Rattle.bounds_model.specs.Numbers.{EachBelow}
use Rattle.bounds_model.specs.Plane.{PlanePoint}
use Rattle.bounds_model.specs.Fans.{HalfFan}
use Rattle.bounds_model.specs.ParallelogramAnswer as answers
use Rattle.parallelogram_strip.specs.FullTurn.{cone_at}
use Rattle.parallelogram_strip.specs.Crossings.{reach_of}

-- they have one along each
abbrev pub AreWide : List PlanePoint → HalfFan → Type 0
AreWide points fan = EachBelow (length fan.cones) (λ j. pos 0 <ℤ reach_of points (cone_at fan j).direction (cone_at fan j))

-- they have none along the direction of this number
pub record IsFlatAt (points : List PlanePoint) (fan : HalfFan) (j : ℕ) : Type 0 where
  pub listed : j < length fan.cones
  pub flat : reach_of points (cone_at fan j).direction (cone_at fan j) ≡ pos 0

-- a chord without length
abbrev pub point_chord : answers.Chord
point_chord = record { a = 0; b = 0; c = 0; beta = pos 1; gamma = pos 0; k = pos 0 }

-- What is asked of the numbers of an answer with a fan, before anything is computed with them.
use Rattle.std.specs.Prelude.{◌≡◌, ◌≢◌, ℕ, ◌-◌, ◌<◌, List, length, All}
use Rattle.bounds_model.specs.Numbers.{HasCount}
use Rattle.bounds_model.specs.Plane.{PlanePoint, origin}
use Rattle.bounds_model.specs.Strip.{Span}
use Rattle.bounds_model.specs.Ranges.{fan_limit}
use Rattle.bounds_model.specs.Fans.{HalfFan, QuarterFan, QuarterCone, half_directions, quarter_directions, IsShort, NamesPoints, NamesAllPoints}
use Rattle.bounds_model.specs.StripAnswer.{IsShortSpan}
use Rattle.bounds_model.specs.ParallelogramAnswer.{Chord, NamesEnds, IsShortChord}

-- the cone names four of so many points
abbrev pub NamesFour : ℕ → QuarterCone → Type 0
NamesFour count cone = (cone.high < count) × (cone.low < count) × (cone.over < count) × (cone.under < count)

-- a fan over half a turn with a number of cones within the limit, which name points, and with short directions
pub record HasHalfLimits (points : List PlanePoint) (fan : HalfFan) : Type 0 where
  pub count : HasCount 1 (fan_limit - 1) fan.cones
  pub numbers : NamesPoints points fan
  pub short : All IsShort (half_directions fan)

-- a fan over a quarter turn, likewise
pub record HasQuarterLimits (points : List PlanePoint) (fan : QuarterFan) : Type 0 where
  pub count : HasCount 1 (fan_limit - 1) fan.cones
  pub numbers : NamesAllPoints points fan
  pub short : All IsShort (quarter_directions fan)

-- a normal and its bounds within their limits
pub record HasNormalLimits (normal : PlanePoint) (span : Span) : Type 0 where
  pub short : IsShort normal
  pub bounds : IsShortSpan span
  pub some : normal ≢ origin

-- the chord names three of so many points
abbrev pub AreBelow : ℕ → Chord → Type 0
AreBelow count chord = (chord.a < count) × (chord.b < count) × (chord.c < count)

-- so many chords, which name points, with weights and factors within their limits
pub record HasChordLimits (points : List PlanePoint) (count : ℕ) (chords : List Chord) : Type 0 where
  pub as_many : length chords ≡ count
  pub names : All (NamesEnds points) chords
  pub short : All IsShortChord chords

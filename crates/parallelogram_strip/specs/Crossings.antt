-- Where the lines across the directions of a fan pass, and the chords there.
use Rattle.std.specs.Prelude.{◌≡◌, ◌⊎◌, ℕ, ◌+◌, ◌<◌, ◌≤◌, ℤ, pos, nat_abs, ◌+ℤ◌, ◌*ℤ◌, ◌≤ℤ◌, List, length}
use Rattle.bounds_model.specs.Numbers.{AllNumbered}
use Rattle.bounds_model.specs.Plane.{PlanePoint}
use Rattle.bounds_model.specs.Fans.{HalfFan, HalfCone, reach}
use Rattle.bounds_model.specs.ParallelogramAnswer as answers
use Rattle.answers.specs.declared.parallelograms.Chord.{Chord}
use Rattle.answers.specs.Answers.{chord_of}
use Rattle.parallelogram_strip.specs.FullTurn.{cone_at}
use Rattle.parallelogram_strip.specs.declared.crossing.Crossing.{Crossing}

-- how far the points of a cone reach in a direction
abbrev pub reach_of : List PlanePoint → PlanePoint → HalfCone → ℤ
reach_of points d cone = reach points d cone.high cone.low

-- a chord across the direction between points, within the checker's limits
pub record IsChord (points : List PlanePoint) (d : PlanePoint) (chord : answers.Chord) : Type 0 where
  pub names : answers.NamesEnds points chord
  pub short : answers.IsShortChord chord
  pub across : answers.IsAcross points d chord

-- the chord leads from a point that two neighbouring cones share to the edge on their other side, from one's point to the other's
abbrev pub Joins : HalfCone → HalfCone → answers.Chord → Type 0
Joins near far chord =
    ((chord.a ≡ near.low) × (chord.b ≡ near.high) × (chord.c ≡ far.high))
    ⊎ ((chord.a ≡ far.high) × (chord.b ≡ far.low) × (chord.c ≡ near.low))

-- the number of a cone, less than half a turn on from a direction of the fan, with the line across the direction between it and the next
pub record IsNear (points : List PlanePoint) (fan : HalfFan) (direction near : ℕ) : Type 0 where
  pub after : direction ≤ near
  pub before : near < direction + length fan.cones
  pub ahead : pos 0 ≤ℤ reach_of points (cone_at fan direction).direction (cone_at fan near)
  pub behind : reach_of points (cone_at fan direction).direction (cone_at fan (near + 1)) ≤ℤ pos 0

-- the numerator of the area that a strip and its chord cut out
abbrev pub area_of : Crossing → ℤ
area_of c = pos c.width *ℤ pos (nat_abs c.chord.k)

-- and its denominator
abbrev pub weight_of : Crossing → ℤ
weight_of c = pos c.chord.beta +ℤ pos c.chord.gamma

-- the area of the one is not above that of the other
abbrev pub IsNotAbove : Crossing → Crossing → Type 0
IsNotAbove a b = (area_of a *ℤ weight_of b) ≤ℤ (area_of b *ℤ weight_of a)

-- a direction of the fan, with the index of its line, the width of its strip and its chord
pub record IsCrossing (points : List PlanePoint) (fan : HalfFan) (c : Crossing) : Type 0 where
  pub listed : c.direction < length fan.cones
  pub near : IsNear points fan c.direction c.near
  pub width : pos c.width ≡ reach_of points (cone_at fan c.direction).direction (cone_at fan c.direction)
  pub limited : c.width ≤ 320000000000
  pub chord : IsChord points (cone_at fan c.direction).direction (chord_of c.chord)
  pub joins : Joins (cone_at fan c.near) (cone_at fan (c.near + 1)) (chord_of c.chord)

-- the chord of the direction of this number, whose area is not below that of the best
pub record IsServed (points : List PlanePoint) (fan : HalfFan) (best : Crossing) (i : ℕ) (chord : answers.Chord) : Type 0 where
  pub carries : IsChord points (cone_at fan i).direction chord
  pub not_smaller : (area_of best *ℤ (chord.beta +ℤ chord.gamma)) ≤ℤ (reach_of points (cone_at fan i).direction (cone_at fan i) *ℤ pos (nat_abs chord.k) *ℤ weight_of best)

-- each listed chord serves the direction of its number
abbrev pub AreServed : List PlanePoint → HalfFan → Crossing → List Chord → Type 0
AreServed points fan best chords = AllNumbered (λ i chord. IsServed points fan best i (chord_of chord)) chords

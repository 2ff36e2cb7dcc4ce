-- A chord for each direction of a fan, and the best of them.
use Rattle.std.specs.Prelude.{◌≡◌, ◌+◌, neg_ℤ, List, length}
use Rattle.bounds_model.specs.Plane.{PlanePoint}
use Rattle.bounds_model.specs.Fans.{HalfFan}
use Rattle.bounds_model.specs.ParallelogramAnswer as answers
use Rattle.parallelogram_strip.specs.Crossings.{IsCrossing, AreServed}
use Rattle.parallelogram_strip.specs.declared.chords.AllChords.{AllChords}

-- the chord for the opposite direction
abbrev pub turned_chord : answers.Chord → answers.Chord
turned_chord c = record { a = c.a; b = c.b; c = c.c; beta = c.beta; gamma = c.gamma; k = neg_ℤ c.k }

-- as many chords as directions, each of which serves the direction of its number, and a crossing whose area is not above any of theirs
pub record AreAllChords (points : List PlanePoint) (fan : HalfFan) (all : AllChords) : Type 0 where
  pub count : length all.chords ≡ length fan.cones + 1
  pub best : IsCrossing points fan all.best
  pub served : AreServed points fan all.best all.chords

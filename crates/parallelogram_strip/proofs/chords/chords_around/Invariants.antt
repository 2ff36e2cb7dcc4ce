use Rattle.std.proofs.Common.{◌≡◌, ◌+◌, length}
use Rattle.bounded_coords.specs.Clouds.{points_of}
use Rattle.answers.specs.Answers.{half_fan_of, chord_of}
use Rattle.parallelogram_strip.specs.Crossings.{IsCrossing, IsServed, AreServed}
use Rattle.parallelogram_strip.proofs.chords.chords_around.Given as goal

abbrev pub invariant-loop-j : goal.invariant-loop-j
invariant-loop-j l = record {
  count : length l.chords ≡ l.j;
  last : IsCrossing (points_of l.cloud) (half_fan_of l.fan) l.last;
  next : l.last.direction + 1 ≡ l.j;
  best : IsCrossing (points_of l.cloud) (half_fan_of l.fan) l.best;
  served : AreServed (points_of l.cloud) (half_fan_of l.fan) l.best l.chords;
  first : IsServed (points_of l.cloud) (half_fan_of l.fan) l.best 0 (chord_of l.first.chord);
}

use Rattle.std.proofs.Common.{ℕ, ◌<◌}
use Rattle.std.specs.Prelude.{map, slice_index_or}
use Rattle.bounds_model.specs.Plane.{point_at}
use Rattle.bounds_model.specs.Fans.{half_directions}
use Rattle.bounds_model.specs.ParallelogramAnswer.{Chord, IsAcross}
use Rattle.bounded_coords.specs.Clouds.{points_of}
use Rattle.answers.specs.Answers.{half_fan_of, chord_of}
use Rattle.fan_checks.proofs.chords.are_across.Given as goal

abbrev pub invariant-loop-i : goal.invariant-loop-i
invariant-loop-i l = (k : ℕ) (d : Chord) → k < l.i → IsAcross (points_of l.cloud) (point_at (half_directions (half_fan_of l.fan)) k) (slice_index_or (map chord_of l.chords) k d)

use Rattle.std.proofs.Common.{ℕ, ◌<◌}
use Rattle.bounded_coords.specs.Clouds.{points_of}
use Rattle.answers.specs.Answers.{half_fan_of}
use Rattle.parallelogram_strip.specs.Widths.{IsWidth}
use Rattle.parallelogram_strip.proofs.Widths.{IsNotThinnerAt, IsThickerAt}
use Rattle.parallelogram_strip.proofs.thinnest.strip_of_fan.Given as goal

abbrev pub invariant-loop-j : goal.invariant-loop-j
invariant-loop-j l = record {
  best : IsWidth (points_of l.cloud) (half_fan_of l.fan) l.best;
  before : (k : ℕ) → k < l.best.direction → IsThickerAt (points_of l.cloud) (half_fan_of l.fan) l.best k;
  seen : (k : ℕ) → k < l.j → IsNotThinnerAt (points_of l.cloud) (half_fan_of l.fan) l.best k;
}

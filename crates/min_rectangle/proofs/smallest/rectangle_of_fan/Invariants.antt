use Rattle.std.proofs.Common.{ℕ, ◌<◌}
use Rattle.bounded_coords.specs.Clouds.{points_of}
use Rattle.answers.specs.Answers.{quarter_fan_of}
use Rattle.min_rectangle.specs.Areas.{IsArea}
use Rattle.min_rectangle.proofs.Areas.{IsNotLargerAt, IsLargerAt}
use Rattle.min_rectangle.proofs.smallest.rectangle_of_fan.Given as goal

abbrev pub invariant-loop-j : goal.invariant-loop-j
invariant-loop-j l = record {
  best : IsArea (points_of l.cloud) (quarter_fan_of l.fan) l.best;
  before : (k : ℕ) → k < l.best.direction → IsLargerAt (points_of l.cloud) (quarter_fan_of l.fan) l.best k;
  seen : (k : ℕ) → k < l.j → IsNotLargerAt (points_of l.cloud) (quarter_fan_of l.fan) l.best k;
}

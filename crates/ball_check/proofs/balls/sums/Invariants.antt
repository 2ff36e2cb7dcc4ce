use Rattle.std.specs.Prelude.{map, take, All, pos, ◌≤ℤ◌}
use Rattle.bounds_model.specs.BallAnswer.{first_support}
use Rattle.bounded_coords.specs.Clouds.{points_of}
use Rattle.answers.specs.Answers.{weighted_of}
use Rattle.ball_sums.specs.Sums.{IsInRange, AreSumsFrom}
use Rattle.ball_check.proofs.balls.sums.Given as goal

abbrev pub invariant-loop-s : goal.invariant-loop-s
invariant-loop-s g l = record {
  weights : All (λ s. pos 1 ≤ℤ s.weight) (map weighted_of (take l.s-index l.supports));
  range : IsInRange g.K.Kernel.DIM l.totals;
  sums : AreSumsFrom (first_support (map g.K.Kernel.place (points_of l.cloud)) (map weighted_of l.supports)) (map g.K.Kernel.place (points_of l.cloud)) (map weighted_of (take l.s-index l.supports)) l.totals;
}

use Rattle.std.specs.Prelude.{map, take, All}
use Rattle.bounds_model.specs.BallAnswer.{IsNotOutside}
use Rattle.bounded_coords.specs.Clouds.{points_of}
use Rattle.answers.specs.Answers.{weighted_of}
use Rattle.ball_check.proofs.balls.is_none_outside.Given as goal

abbrev pub invariant-loop-i : goal.invariant-loop-i
invariant-loop-i g l = All (λ p. IsNotOutside (map g.K.Kernel.place (points_of l.cloud)) (map weighted_of l.supports) (g.K.Kernel.place p)) (take l.i (points_of l.cloud))

use Rattle.std.specs.Prelude.{map, take, All}
use Rattle.bounds_model.specs.BallAnswer.{IsOnBall}
use Rattle.bounded_coords.specs.Clouds.{points_of}
use Rattle.answers.specs.Answers.{weighted_of}
use Rattle.ball_check.proofs.balls.are_on_ball.Given as goal

abbrev pub invariant-loop-s : goal.invariant-loop-s
invariant-loop-s g l = All (λ s. IsOnBall (map g.K.Kernel.place (points_of l.cloud)) (map weighted_of l.supports) (weighted_of s)) (take l.s-index l.supports)

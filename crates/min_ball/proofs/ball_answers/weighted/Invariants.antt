use Rattle.std.proofs.Common.{◌≡◌, take, map}
use Rattle.answers.specs.Answers.{weighted_of}
use Rattle.min_ball.specs.Balls.{listed}
use Rattle.min_ball.proofs.ball_answers.weighted.Given as goal

abbrev pub invariant-list : goal.invariant-list
invariant-list g l = map weighted_of l.supports.items ≡ take l.i (listed l.support)

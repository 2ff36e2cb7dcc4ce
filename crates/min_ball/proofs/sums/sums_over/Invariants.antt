use Rattle.std.proofs.Common.{take}
use Rattle.min_ball.specs.Balls.{coordinates, listed}
use Rattle.ball_sums.specs.Sums.{IsInRange, AreSumsFrom}
use Rattle.min_ball.proofs.sums.sums_over.Given as goal

abbrev pub invariant-add : goal.invariant-add
invariant-add g l =
    IsInRange g.K.Kernel.DIM l.sums
    × AreSumsFrom (g.K.Kernel.place l.first) (coordinates g.K.Kernel.place l.support) (take l.i (listed l.support)) l.sums

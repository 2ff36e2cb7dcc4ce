use Rattle.bounds_model.specs.Numbers.{EachBelow}
use Rattle.bounds_model.specs.Plane.{point_at}
use Rattle.bounds_model.specs.Fans.{IsShort, half_directions}
use Rattle.answers.specs.Answers.{half_fan_of}
use Rattle.fan_test.proofs.limits.is_short_half.Given as goal

abbrev pub invariant-loop-i : goal.invariant-loop-i
invariant-loop-i l = EachBelow l.i (λ k. IsShort (point_at (half_directions (half_fan_of l.fan)) k))

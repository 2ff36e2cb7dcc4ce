use Rattle.std.specs.Prelude.{◌≡◌, take, All}
use Rattle.bounds_model.specs.Space.{dot, vector}
use Rattle.bounds_model.specs.DistanceAnswer.{difference}
use Rattle.bounded_coords.specs.Clouds.{points_of}
use Rattle.answers.specs.Answers.{pair_of}
use Rattle.pair_sums.specs.Sums.{pull_of}
use Rattle.distance_check.proofs.distances.are_level.Given as goal

abbrev pub invariant-loop-pair : goal.invariant-loop-pair
invariant-loop-pair l = All (λ pair. dot (pull_of l.totals) (difference (points_of l.p) (points_of l.q) (pair_of pair)) ≡ dot (pull_of l.totals) (vector l.second l.first)) (take l.pair-index l.pairs)

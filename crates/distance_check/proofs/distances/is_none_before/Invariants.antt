use Rattle.std.specs.Prelude.{take, All, pos, ◌≤ℤ◌}
use Rattle.bounds_model.specs.Space.{dot, vector}
use Rattle.bounded_coords.specs.Clouds.{points_of}
use Rattle.pair_sums.specs.Sums.{pull_of}
use Rattle.distance_check.proofs.distances.is_none_before.Given as goal

abbrev pub invariant-loop-i : goal.invariant-loop-i
invariant-loop-i l = All (λ p. pos 0 ≤ℤ dot (pull_of l.totals) (vector l.first p)) (take l.i (points_of l.cloud))

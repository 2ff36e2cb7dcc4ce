use Rattle.std.specs.Prelude.{map, take, All, pos, ◌≤ℤ◌}
use Rattle.bounded_coords.specs.Clouds.{points_of}
use Rattle.answers.specs.Answers.{pair_of}
use Rattle.pair_sums.specs.Sums.{IsInRange, AreSums}
use Rattle.distance_check.proofs.distances.sums.Given as goal

abbrev pub invariant-loop-pair : goal.invariant-loop-pair
invariant-loop-pair l = record {
  weights : All (λ pair. pos 1 ≤ℤ pair.weight) (map pair_of (take l.pair-index l.pairs));
  range : IsInRange l.totals;
  sums : AreSums (points_of l.p) (points_of l.q) (map pair_of (take l.pair-index l.pairs)) l.totals;
}

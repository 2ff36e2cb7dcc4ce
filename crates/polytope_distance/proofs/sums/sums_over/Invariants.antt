use Rattle.std.proofs.Common.{take}
use Rattle.corral.specs.Items.{first_points, second_points}
use Rattle.corral.specs.Supported.{items_of}
use Rattle.pair_sums.specs.Sums.{IsInRange, AreSums}
use Rattle.polytope_distance.specs.Supports.{weighted_pairs}
use Rattle.polytope_distance.proofs.sums.sums_over.Given as goal

abbrev pub invariant-add : goal.invariant-add
invariant-add l = IsInRange l.sums × AreSums (first_points (items_of l.support)) (second_points (items_of l.support)) (take l.i (weighted_pairs l.support)) l.sums

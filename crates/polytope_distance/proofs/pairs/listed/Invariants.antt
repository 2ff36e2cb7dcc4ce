use Rattle.std.proofs.Common.{◌≡◌, take, map}
use Rattle.answers.specs.Answers.{pair_of}
use Rattle.polytope_distance.specs.Supports.{weighted_pairs}
use Rattle.polytope_distance.proofs.pairs.listed.Given as goal

abbrev pub invariant-list : goal.invariant-list
invariant-list l = map pair_of l.pairs.items ≡ take l.i (weighted_pairs l.support)

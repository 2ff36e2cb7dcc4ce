use Rattle.std.proofs.Common.{◌≡◌, length, take}
use Rattle.corral.specs.WeightedItems.{names, weights}
use Rattle.corral.specs.Balances.{candidate_names}
use Rattle.corral.proofs.search.weighted.Given as goal

abbrev pub invariant-loop-i : goal.invariant-loop-i
invariant-loop-i l =
    (names l.members.items ≡ candidate_names (take l.i l.part)) × (weights l.members.items ≡ take l.i l.weights) × (length l.members.items ≡ l.i)

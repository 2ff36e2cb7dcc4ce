use Rattle.std.proofs.Common.{◌≡◌, length, take, map}
use Rattle.corral.proofs.search.vectors.Given as goal

abbrev pub invariant-loop-i : goal.invariant-loop-i
invariant-loop-i l = (take l.i l.vectors ≡ map (λ c. c.vector) (take l.i l.part)) × (length l.vectors ≡ 5)

use Rattle.std.proofs.Common.{◌↔◌, ◌+◌, ◌+ℤ◌, ◌≤ℤ◌, IsFalse}
use Rattle.bounds_model.specs.Numbers.{EachBelow}
use Rattle.polygon_check.specs.PotentialRows.{at}
use Rattle.polygon_check.proofs.potentials.are_below.Given as goal

-- none was found where none of the potentials before j comes with its area to more
abbrev pub invariant-areas : goal.invariant-areas
invariant-areas l = IsFalse l.is_above ↔ EachBelow l.j (λ j. (at l.rows (l.start + j) +ℤ at l.areas j) ≤ℤ l.most)

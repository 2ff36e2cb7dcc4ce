use Rattle.std.proofs.Common.{map}
use Rattle.added_areas.specs.PlaneVectors.{vector_of}
use Rattle.extremal_kgon.proofs.NextPositions.{NoneBefore}
use Rattle.extremal_kgon.proofs.choice.next_position.Given as goal

abbrev pub invariant-later : goal.invariant-later
invariant-later l = NoneBefore (map vector_of l.vectors) l.last l.more l.fn.covered l.fn.size l.next

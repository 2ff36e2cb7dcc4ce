use Rattle.extremal_kgon.proofs.Bests.{TakesSoFar}
use Rattle.extremal_kgon.proofs.table.Best.with_row.Given as goal

abbrev pub invariant-row : goal.invariant-row
invariant-row l = TakesSoFar l.fn.self l.row l.first l.layer l.i l.best

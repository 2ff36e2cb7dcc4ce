use Rattle.extremal_kgon.proofs.Walks.{IsWalk}
use Rattle.extremal_kgon.proofs.choice.choice.Given as goal

abbrev pub invariant-corners : goal.invariant-corners
invariant-corners l = IsWalk l.corners l.layers l.best.first l.best.area l.chosen.items l.last l.more l.covered

abbrev pub decreases-corners : goal.decreases-corners
decreases-corners l = l.more

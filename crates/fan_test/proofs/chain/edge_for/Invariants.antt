use Rattle.bounds_model.specs.Plane.{dot}
use Rattle.fan_test.specs.Directions.{direction_of}
use Rattle.fan_test.proofs.Halving.{HasEdge}
use Rattle.fan_test.proofs.chain.edge_for.Given as goal

abbrev pub invariant-halves : goal.invariant-halves
invariant-halves g l = HasEdge (g.C.Chain.directions l.chain) (g.C.Chain.points l.chain) l.from l.to (dot (direction_of l.first) l.fn.p) l.low l.size

abbrev pub decreases-halves : goal.decreases-halves
decreases-halves g l = l.size

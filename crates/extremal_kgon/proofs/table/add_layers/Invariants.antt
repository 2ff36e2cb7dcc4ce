use Rattle.std.proofs.Common.{map, pos}
use Rattle.extremal_kgon.proofs.TableSteps.{IsPartTable}
use Rattle.extremal_kgon.proofs.table.add_layers.Given as goal

abbrev pub invariant-layers : goal.invariant-layers
invariant-layers l = IsPartTable l.corners l.fn.layers l.first l.layer (map pos l.potentials) l.before.items l.best

use Rattle.std.proofs.Common.{◌+◌, ◌*◌, length}
use Rattle.bounds_model.specs.Numbers.{EachBelow}
use Rattle.polygon_check.specs.PotentialRows.{at, AreBelow}
use Rattle.polygon_check.proofs.potentials.are_raised.Given as goal

-- the layers before this one are raised
abbrev pub invariant-layers : goal.invariant-layers
invariant-layers l = EachBelow l.layer (λ layer. AreBelow l.areas l.rows (layer * l.width) (at l.rows ((layer + 1) * l.width + length l.areas)))

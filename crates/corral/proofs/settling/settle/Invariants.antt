use Rattle.std.proofs.Common.{◌≡◌, ◌*◌}
use Rattle.kernel_laws.specs.Limits.{difference_limit}
use Rattle.kernel_laws.specs.Solutions.{weight_limit}
use Rattle.corral.specs.Corrals.{all_items, supports_in}
use Rattle.corral.specs.Rise.{measure}
use Rattle.corral.proofs.settling.settle.Given as goal

abbrev pub invariant-exchange : goal.invariant-exchange
invariant-exchange g l = all_items l.corral ≡ l.fn.items

abbrev pub decreases-exchange : goal.decreases-exchange
decreases-exchange g l =
    measure g.T.Potential.SQUARE (3 * (difference_limit g.K.Kernel.DIM * difference_limit g.K.Kernel.DIM)) (weight_limit g.T.Potential.SQUARE g.K.Kernel.DIM) (supports_in g.K.Kernel.place l.corral)

use Rattle.std.proofs.Common.{◌≡◌, pos, take}
use Rattle.std.specs.Prelude.{All}
use Rattle.corral.specs.Balances.{IsNear}
use Rattle.corral.proofs.unsettled.Corral.near_pairs.Given as goal

abbrev pub invariant-pair : goal.invariant-pair
invariant-pair g l = g.T.Potential.SQUARE ≡ pos 1 → All (λ a. All (λ b. IsNear g.K.Kernel.DIM g.K.Kernel.place l.self.items a.id b.id) l.candidates) (take l.a-index l.candidates)

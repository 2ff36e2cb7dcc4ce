use Rattle.std.proofs.Common.{take}
use Rattle.std.specs.Prelude.{All}
use Rattle.corral.specs.Balances.{IsNear}
use Rattle.corral.proofs.unsettled.Corral.near_all.Given as goal

abbrev pub invariant-tell : goal.invariant-tell
invariant-tell g l = All (λ c. IsNear g.K.Kernel.DIM g.K.Kernel.place l.self.items l.id c.id) (take l.candidate-index l.candidates)

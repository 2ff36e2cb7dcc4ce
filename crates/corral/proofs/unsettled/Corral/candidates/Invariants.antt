use Rattle.corral.proofs.Filling.{AreFilled}
use Rattle.corral.proofs.unsettled.Corral.candidates.Given as goal

abbrev pub invariant-fill : goal.invariant-fill
invariant-fill g l = AreFilled {K = g.row.K.Denot} g.K.Kernel.DIM g.K.Kernel.place l.self.items l.fn.id l.all.items l.support-items l.support-index

use Rattle.std.proofs.Common.{subst}
use Rattle.std.specs.Prelude.{All}
use Rattle.std.proofs.lemmas.List.Elements.{All-more}
use Rattle.corral.specs.declared.search.Candidate.{Candidate}
use Rattle.corral.specs.Balances.{IsNear}
use Rattle.corral.proofs.Blanks.{blank}
use Rattle.corral.proofs.Mapped.{take_whole}
use Rattle.corral.proofs.unsettled.Corral.near_pairs.Goals as goal

pub pair-preserved : goal.pair-preserved
pair-preserved g c quadratic =
    let within = c.pair-test.true in
    All-more (λ (a : Candidate). All (λ (b : Candidate). IsNear {K = g.row.K.Denot} g.K.Kernel.DIM g.K.Kernel.place c.args.self.now.items a.id b.id) c.args.candidates.now) c.args.candidates.now c.pair.a-index blank within (c.pair.invariant quadratic) (c.near_all.ensures quadratic)

pub returns : goal.returns
returns g c quadratic =
    subst (All (λ (a : Candidate). All (λ (b : Candidate). IsNear {K = g.row.K.Denot} g.K.Kernel.DIM g.K.Kernel.place c.args.self.now.items a.id b.id) c.args.candidates.now)) (take_whole c.args.candidates.now c.pair.a-index c.pair-test.false) (c.pair.invariant quadratic)

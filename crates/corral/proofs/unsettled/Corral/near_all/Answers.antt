use Rattle.std.proofs.Common.{subst, get_or}
use Rattle.std.specs.Prelude.{All}
use Rattle.std.proofs.lemmas.List.Elements.{All-more}
use Rattle.kernel_laws.specs.Vectors.{vector_of}
use Rattle.corral.specs.declared.search.Candidate.{Candidate}
use Rattle.corral.specs.Balances.{IsNear}
use Rattle.corral.proofs.Blanks.{blank}
use Rattle.corral.proofs.Mapped.{take_whole}
use Rattle.corral.proofs.Nearness.{near_points}
use Rattle.corral.proofs.unsettled.Corral.near_all.Goals as goal

pub tell-preserved : goal.tell-preserved
tell-preserved g c =
    let within = c.tell-test.true in
    All-more (λ (c' : Candidate). IsNear {K = g.row.K.Denot} g.K.Kernel.DIM g.K.Kernel.place c.args.self.now.items c.args.id c'.id) c.args.candidates.now c.tell.candidate-index blank within c.tell.invariant
    (near_points {K = g.row.K.Denot} g.K.Kernel.DIM g.K.Kernel.place c.args.self.now.items c.in-Points.cloud c.args.id (get_or c.args.candidates.now c.tell.candidate-index blank).id c.at.result.now c.at-in-tell.result.now (vector_of c.diff-apart.result) c.in-Points.is c.at.ensures c.at-in-tell.ensures c.diff-apart.ensures.value c.diff-apart.ensures.difference.within)

pub returns-after-tell : goal.returns-after-tell
returns-after-tell g c quadratic = subst (All (λ (c' : Candidate). IsNear {K = g.row.K.Denot} g.K.Kernel.DIM g.K.Kernel.place c.args.self.now.items c.args.id c'.id)) (take_whole c.args.candidates.now c.tell.candidate-index c.tell-test.false) c.tell.invariant

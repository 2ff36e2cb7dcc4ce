use Rattle.std.proofs.Common.{◌∙◌, ap, subst, sym, inl, inr, ◌++◌, ◌∷◌, [], length, arith}
use Rattle.std.specs.Prelude.{All}
use Rattle.std.proofs.lemmas.List.Elements.{All-get_or}
use Rattle.corral.specs.declared.support.WeightedItem.{WeightedItem}
use Rattle.corral.specs.declared.search.Candidate.{Candidate}
use Rattle.corral.specs.Items.{IsItem}
use Rattle.corral.specs.WeightedItems.{names}
use Rattle.corral.specs.Balances.{IsNear}
use Rattle.corral.proofs.Blanks.{blank_support}
use Rattle.corral.proofs.Filling.{filled_first, filled_more}
use Rattle.corral.proofs.Mapped.{take_whole}
use Rattle.corral.proofs.Nearness.{candidates_are_items}
use Rattle.corral.proofs.unsettled.Corral.candidates.Goals as goal

pub fill-init : goal.fill-init
fill-init g c =
    filled_first {K = g.row.K.Denot} g.K.Kernel.DIM g.K.Kernel.place c.args.self.now.items c.args.id c.push.new.self.items c.candidate.result c.as_slice-support-items.result.now (c.push.ensures.items ∙ ap (λ cs. cs ++ c.candidate.result ∷ []) c.new-all.ensures) c.candidate.ensures.id c.candidate.ensures.vector c.candidate.ensures.difference c.requires

pub push-requires-in-fill : goal.push-requires-in-fill
push-requires-in-fill g c =
    let many = c.fill.invariant.many in
    let most = c.args.self.now.members.count.at_most in
    let same = ap length c.as_slice-support-items.ensures.value in
    let within = c.fill-test.true in
    elim g.met.K.Kernel.two_or_three [ inl e ↦ (omega arith, omega arith) | inr e ↦ (omega arith, omega arith) ]

pub fill-preserved : goal.fill-preserved
fill-preserved g c =
    let within = c.fill-test.true in
    let listed = subst (All (λ (s : WeightedItem). IsItem c.args.self.now.items s.id)) (sym c.as_slice-support-items.ensures.value) c.args.self.now.members.listed in
    filled_more {K = g.row.K.Denot} g.K.Kernel.DIM g.K.Kernel.place c.args.self.now.items c.args.id c.fill.all.items c.push-in-fill.new.self.items c.candidate-in-fill.result c.as_slice-support-items.result.now c.fill.support-index blank_support c.fill.invariant within
    c.push-in-fill.ensures.items c.candidate-in-fill.ensures.id c.candidate-in-fill.ensures.vector c.candidate-in-fill.ensures.difference
    (All-get_or (λ (s : WeightedItem). IsItem c.args.self.now.items s.id) c.as_slice-support-items.result.now c.fill.support-index blank_support within listed)

pub returns-clause-names : goal.returns-clause-names
returns-clause-names g c =
    c.fill.invariant.named ∙ ap (λ members. c.args.id ∷ names members) (take_whole c.as_slice-support-items.result.now c.fill.support-index c.fill-test.false ∙ c.as_slice-support-items.ensures.value)

pub returns-clause-items : goal.returns-clause-items
returns-clause-items g c =
    let many = c.fill.invariant.many in
    let most = c.args.self.now.members.count.at_most in
    let same = ap length c.as_slice-support-items.ensures.value in
    let end = c.fill.auto.support-index-end in
    candidates_are_items {K = g.row.K.Denot} g.T.Potential.SQUARE g.K.Kernel.DIM g.K.Kernel.place c.args.self.now.items c.fill.all.items c.fill.invariant.candidates (omega arith) (omega arith) c.fill.invariant.differences
    (λ quadratic. subst (λ cs. All (λ (a : Candidate). All (λ (b : Candidate). IsNear {K = g.row.K.Denot} g.K.Kernel.DIM g.K.Kernel.place c.args.self.now.items a.id b.id) cs) cs) c.as_slice.ensures.value (c.near_pairs.ensures quadratic))

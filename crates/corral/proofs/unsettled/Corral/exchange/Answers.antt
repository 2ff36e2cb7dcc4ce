use Rattle.std.proofs.Common.{refl, sym, ◌∙◌, subst, ◌≤◌, ◌++◌, length}
use Rattle.corral.specs.Parts.{IsPart}
use Rattle.corral.specs.Balances.{vectors, AreRefuted}
use Rattle.corral.proofs.Parts.{part_whole}
use Rattle.corral.proofs.Exchanging.{exchange_is, new_part, new_balance, new_members, new_none_low, new_value, search_finds}
use Rattle.corral.proofs.unsettled.Corral.exchange.Goals as goal

pub search-requires-clause-chosen : goal.search-requires-clause-chosen
search-requires-clause-chosen g c =
    subst (λ cs. IsPart (cs ++ c.as_slice-2.result.now) c.as_slice.result.now) (sym c.new-chosen.ensures)
    (subst (λ cs. IsPart cs c.as_slice.result.now) (c.as_slice.ensures.value ∙ sym c.as_slice-2.ensures.value) (part_whole c.as_slice.result.now))

pub unreachable-requires : goal.unreachable-requires
unreachable-requires g c =
    search_finds g.T.Potential.SQUARE g.T.Potential.zero_or_one c.as_slice.result.now
    (subst (λ cs. 1 ≤ length (vectors cs)) (sym c.as_slice.ensures.value) c.candidates-all.ensures.items.some)
    (subst (λ cs. AreRefuted g.T.Potential.SQUARE c.as_slice.result.now cs c.as_slice.result.now) c.new-chosen.ensures
    (subst (AreRefuted g.T.Potential.SQUARE c.as_slice.result.now c.new-chosen.result.items) (c.as_slice-2.ensures.value ∙ sym c.as_slice.ensures.value) (c.in-None.ensures.none refl)))

pub invariant_of-self : goal.invariant_of-self
invariant_of-self g c = record {
  suited = c.args.self.now.suited;
  members = new_members {K = g.row.K.Denot} g.K.Kernel.DIM g.T.Potential.SQUARE g.K.Kernel.place c.args.self.now.items c.args.self.now.balance.members.items c.args.id c.as_slice.result.now c.in-Some.ensures.found.0 c.in-Some.balance (exchange_is {K = g.row.K.Denot} g.K.Kernel.DIM g.T.Potential.SQUARE g.K.Kernel.place c.args.self.now.items c.args.self.now.balance.members.items c.args.id c.candidates-all.result.items c.as_slice.result.now c.in-Some.ensures.found.0 c.in-Some.balance c.args.self.now.balance
      g.T.Potential.zero_or_one g.met.K.Kernel.two_or_three c.requires.item c.args.self.now.members c.args.self.now.balanced c.requires.low c.as_slice.ensures.value c.candidates-all.ensures.names c.candidates-all.ensures.vectors c.candidates-all.ensures.items c.in-Some.ensures.found.1);
  balanced = new_balance {K = g.row.K.Denot} g.K.Kernel.DIM g.T.Potential.SQUARE g.K.Kernel.place c.args.self.now.items c.args.self.now.balance.members.items c.args.id c.as_slice.result.now c.in-Some.ensures.found.0 c.in-Some.balance (exchange_is {K = g.row.K.Denot} g.K.Kernel.DIM g.T.Potential.SQUARE g.K.Kernel.place c.args.self.now.items c.args.self.now.balance.members.items c.args.id c.candidates-all.result.items c.as_slice.result.now c.in-Some.ensures.found.0 c.in-Some.balance c.args.self.now.balance
      g.T.Potential.zero_or_one g.met.K.Kernel.two_or_three c.requires.item c.args.self.now.members c.args.self.now.balanced c.requires.low c.as_slice.ensures.value c.candidates-all.ensures.names c.candidates-all.ensures.vectors c.candidates-all.ensures.items c.in-Some.ensures.found.1);
}

pub returns-clause-part : goal.returns-clause-part
returns-clause-part g c = new_part {K = g.row.K.Denot} g.K.Kernel.DIM g.T.Potential.SQUARE g.K.Kernel.place c.args.self.now.items c.args.self.now.balance.members.items c.args.id c.as_slice.result.now c.in-Some.ensures.found.0 c.in-Some.balance (exchange_is {K = g.row.K.Denot} g.K.Kernel.DIM g.T.Potential.SQUARE g.K.Kernel.place c.args.self.now.items c.args.self.now.balance.members.items c.args.id c.candidates-all.result.items c.as_slice.result.now c.in-Some.ensures.found.0 c.in-Some.balance c.args.self.now.balance
    g.T.Potential.zero_or_one g.met.K.Kernel.two_or_three c.requires.item c.args.self.now.members c.args.self.now.balanced c.requires.low c.as_slice.ensures.value c.candidates-all.ensures.names c.candidates-all.ensures.vectors c.candidates-all.ensures.items c.in-Some.ensures.found.1)

pub returns-clause-none_low : goal.returns-clause-none_low
returns-clause-none_low g c = new_none_low {K = g.row.K.Denot} g.K.Kernel.DIM g.T.Potential.SQUARE g.K.Kernel.place c.args.self.now.items c.args.self.now.balance.members.items c.args.id c.as_slice.result.now c.in-Some.ensures.found.0 c.in-Some.balance (exchange_is {K = g.row.K.Denot} g.K.Kernel.DIM g.T.Potential.SQUARE g.K.Kernel.place c.args.self.now.items c.args.self.now.balance.members.items c.args.id c.candidates-all.result.items c.as_slice.result.now c.in-Some.ensures.found.0 c.in-Some.balance c.args.self.now.balance
    g.T.Potential.zero_or_one g.met.K.Kernel.two_or_three c.requires.item c.args.self.now.members c.args.self.now.balanced c.requires.low c.as_slice.ensures.value c.candidates-all.ensures.names c.candidates-all.ensures.vectors c.candidates-all.ensures.items c.in-Some.ensures.found.1)

pub returns-clause-risen : goal.returns-clause-risen
returns-clause-risen g c = new_value {K = g.row.K.Denot} g.K.Kernel.DIM g.T.Potential.SQUARE g.K.Kernel.place c.args.self.now.items c.args.self.now.balance.members.items c.args.id c.as_slice.result.now c.in-Some.ensures.found.0 c.in-Some.balance (exchange_is {K = g.row.K.Denot} g.K.Kernel.DIM g.T.Potential.SQUARE g.K.Kernel.place c.args.self.now.items c.args.self.now.balance.members.items c.args.id c.candidates-all.result.items c.as_slice.result.now c.in-Some.ensures.found.0 c.in-Some.balance c.args.self.now.balance
    g.T.Potential.zero_or_one g.met.K.Kernel.two_or_three c.requires.item c.args.self.now.members c.args.self.now.balanced c.requires.low c.as_slice.ensures.value c.candidates-all.ensures.names c.candidates-all.ensures.vectors c.candidates-all.ensures.items c.in-Some.ensures.found.1)

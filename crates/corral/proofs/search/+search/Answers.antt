use Rattle.std.proofs.Common.{sym, ◌∙◌, subst, ◌++◌, arith, rules, length-append}
use Rattle.integers.proofs.Lists.{popped}
use Rattle.corral.specs.Parts.{IsPart}
use Rattle.corral.proofs.Blanks.{blank}
use Rattle.corral.proofs.MomentSums.{rest}
use Rattle.corral.proofs.Solutions.{few_candidates}
use Rattle.corral.proofs.Searching.{part_without, refuted_at_end, refuted_both_ways}
use Rattle.corral.proofs.search.+search.Goals as goal

pub push-requires : goal.push-requires
push-requires g t c =
    let few = few_candidates g.K.Kernel.DIM g.met.K.Kernel.two_or_three c.requires.chosen c.requires.all.few in
    let both = length-append c.args.chosen.now.items c.args.rest.now in
    let some = c.in-len1-up.len_at_least in
    (omega arith, omega arith)

pub search-requires : goal.search-requires
search-requires g t c =
    let is_part : IsPart (c.pop.new.self.items ++ rest c.args.rest.now) c.args.all.now =
    subst (λ zs. IsPart (zs ++ rest c.args.rest.now) c.args.all.now) (sym (popped c.args.chosen.now.items c.push.new.self.items c.search-with.new.chosen.items c.pop.new.self.items _ c.push.ensures.items c.search-with.ensures.same c.pop.ensures.rest))
    (part_without c.args.chosen.now.items c.args.all.now c.args.rest.now c.in-len1-up.len_at_least c.requires.chosen) in
    search rules

pub returns-in-empty-clause-none : goal.returns-in-empty-clause-none
returns-in-empty-clause-none g t c nothing = refuted_at_end g.T.Potential.SQUARE c.args.all.now c.args.chosen.now.items c.as_slice.result.now c.args.rest.now c.in-empty.len_below c.as_slice.ensures.value (c.settled.ensures.none nothing)

pub returns-else-is_some-clause-none : goal.returns-else-is_some-clause-none
returns-else-is_some-clause-none g t c nothing =
    refuted_both_ways g.T.Potential.SQUARE c.args.all.now c.args.chosen.now.items c.push.new.self.items c.pop.new.self.items c.args.rest.now blank c.in-len1-up.len_at_least c.push.ensures.items
    (popped c.args.chosen.now.items c.push.new.self.items c.search-with.new.chosen.items c.pop.new.self.items _ c.push.ensures.items c.search-with.ensures.same c.pop.ensures.rest)
    (c.search-with.ensures.none (sym c.is_some.ensures ∙ c.if-is_some.false)) (c.search.ensures.none nothing)

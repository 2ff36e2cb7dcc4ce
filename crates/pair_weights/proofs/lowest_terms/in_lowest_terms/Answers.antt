use Rattle.std.proofs.Common.{sym, ◌∙◌, ap, subst, length, map, arith}
use Rattle.std.proofs.lemmas.List.{take_all}
use Rattle.answers.specs.declared.pairs.WeightedPair.{WeightedPair}
use Rattle.pair_weights.specs.CommonFactors.{IsCommonFactor, times}
use Rattle.pair_weights.proofs.CommonFactors.{some_factor, times_more, no_factor_left}
use Rattle.pair_weights.proofs.lowest_terms.in_lowest_terms.Goals as goal

pub push-requires : goal.push-requires
push-requires g c =
    let fits = c.as_slice-pair-items.ensures.fits in
    let below = c.loop-pair-test.true in
    let count = c.loop-pair.invariant.count in
    (omega arith, omega arith)

pub nonzero_div-pair : goal.nonzero_div-pair
nonzero_div-pair g c = some_factor c.args.pairs.now.items c.common_factor-factor.result c.requires (subst (λ ps. IsCommonFactor ps c.common_factor-factor.result) c.as_slice.ensures.value c.common_factor-factor.ensures)

pub loop-pair-init : goal.loop-pair-init
loop-pair-init g c = record { same = ap (map (times c.common_factor-factor.result)) c.new-lowest.ensures; count = ap length c.new-lowest.ensures }

pub loop-pair-preserved : goal.loop-pair-preserved
loop-pair-preserved g c =
    let none : WeightedPair = record { first = 0; second = 0; weight = 0 } in
    let factor = c.common_factor-factor.result in
    let items = c.as_slice-pair-items.result.now in
    let is = subst (λ ps. IsCommonFactor ps factor) (c.as_slice.ensures.value ∙ sym c.as_slice-pair-items.ensures.value) c.common_factor-factor.ensures in
    record {
      same = ap (map (times factor)) c.push.ensures.items ∙ times_more factor items c.loop-pair.lowest.items c.loop-pair.pair-index none c.loop-pair-test.true c.loop-pair.invariant.same (is.divides c.loop-pair.pair-index none c.loop-pair-test.true);
      count = let l = c.push.ensures.len in let before = c.loop-pair.invariant.count in omega arith;
    }

pub returns : goal.returns
returns g c =
    let factor = c.common_factor-factor.result in
    let is = subst (λ ps. IsCommonFactor ps factor) c.as_slice.ensures.value c.common_factor-factor.ensures in
    let some = some_factor c.args.pairs.now.items factor c.requires is in
    let same = sym (c.loop-pair.invariant.same ∙ take_all c.loop-pair.pair-index c.as_slice-pair-items.result.now c.loop-pair-test.false ∙ c.as_slice-pair-items.ensures.value) in
    record { factor = factor; some = some; same = same; no_factor = no_factor_left c.args.pairs.now.items c.loop-pair.lowest.items factor some is same }

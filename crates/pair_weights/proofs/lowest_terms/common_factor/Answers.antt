use Prim.Native.Nat.{◌∣◌}
use Rattle.std.proofs.Common.{subst, arith}
use Rattle.std.specs.Prelude.{All}
use Rattle.std.proofs.Math.Nat.{dvd-zero}
use Rattle.std.proofs.lemmas.List.{take_all}
use Rattle.answers.specs.declared.pairs.WeightedPair.{WeightedPair}
use Rattle.pair_weights.proofs.CommonFactors.{factor_more}
use Rattle.pair_weights.proofs.lowest_terms.common_factor.Goals as goal

pub loop-pair-init : goal.loop-pair-init
loop-pair-init c = record { divides = λ i d below. absurd (omega arith); greatest = λ k all. dvd-zero k }

pub loop-pair-preserved : goal.loop-pair-preserved
loop-pair-preserved c =
    let none : WeightedPair = record { first = 0; second = 0; weight = 0 } in
    record {
      divides = factor_more c.args.pairs.now c.loop-pair.pair-index c.loop-pair.factor c.gcd-factor.result none c.loop-pair-test.true c.loop-pair.invariant.divides c.gcd-factor.ensures;
      greatest = λ k all. c.gcd-factor.ensures.2 k (c.loop-pair.invariant.greatest k all) (all c.loop-pair.pair-index none c.loop-pair-test.true);
    }

pub returns : goal.returns
returns c =
    let whole = take_all c.loop-pair.pair-index c.args.pairs.now c.loop-pair-test.false in
    record { divides = subst (All (λ (pair : WeightedPair). c.loop-pair.factor ∣ pair.weight)) whole c.loop-pair.invariant.divides; greatest = c.loop-pair.invariant.greatest }

use Rattle.std.proofs.Common.{ap}
use Rattle.std.proofs.lemmas.Bool.{eqb-true, eq-eqb}
use Rattle.pair_sums.specs.Means.{product_ratio}
use Rattle.ball_sums.proofs.MachineMeans.{denominator_positive}
use Rattle.exact_fractions.proofs.UniqueForms.{has_value, same_number, same_fraction}
use Rattle.distance_check.proofs.distances.is_size.Goals as goal

pub returns-then-num : goal.returns-then-num
returns-then-num c =
    let is = has_value c.args.size.now c.size-ratio.result (product_ratio c.args.totals.now c.args.first.now c.args.second.now) (denominator_positive c.requires.some) c.size-ratio.ensures.lowest c.size-ratio.ensures.value in (
      λ yes. is.1 (same_fraction c.args.size.now c.size-ratio.result c.num.ensures.value c.num-2.ensures.value c.den.ensures.value c.den-then-num.ensures.value c.if-num.true (eqb-true c.den.result c.den-then-num.result yes)),
      λ h. eq-eqb c.den.result c.den-then-num.result (same_number c.den.ensures.value c.den-then-num.ensures.value (ap (λ f. f.d) (is.0 h))),
    )

pub returns-else-num : goal.returns-else-num
returns-else-num c =
    let is = has_value c.args.size.now c.size-ratio.result (product_ratio c.args.totals.now c.args.first.now c.args.second.now) (denominator_positive c.requires.some) c.size-ratio.ensures.lowest c.size-ratio.ensures.value in (
      λ yes. absurd (c.if-num.false (eqb-true c.num.result c.num-2.result yes)),
      λ h. eq-eqb c.num.result c.num-2.result (same_number c.num.ensures.value c.num-2.ensures.value (ap (λ f. f.n) (is.0 h))),
    )

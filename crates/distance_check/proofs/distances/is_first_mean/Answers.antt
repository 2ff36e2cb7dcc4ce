use Rattle.pair_sums.specs.Means.{mean_of}
use Rattle.ball_sums.proofs.MachineMeans.{denominator_positive}
use Rattle.exact_fractions.proofs.UniqueForms.{has_space_place, space_ratio_same}
use Rattle.distance_check.proofs.distances.is_first_mean.Goals as goal

pub returns : goal.returns
returns c =
    let totals = c.args.totals.now in
    let same = space_ratio_same c.args.from.now c.first_mean.result c.eq.ensures in
    let is = has_space_place c.args.from.now c.first_mean.result (mean_of totals.weight totals.first) (denominator_positive c.requires.some) c.first_mean.ensures.lowest c.first_mean.ensures.place in
    (λ yes. is.1 (same.0 yes), λ h. same.1 (is.0 h))

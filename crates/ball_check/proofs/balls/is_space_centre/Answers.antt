use Rattle.ball_sums.specs.Means.{space_mean}
use Rattle.ball_sums.proofs.MachineMeans.{denominator_positive}
use Rattle.exact_fractions.proofs.UniqueForms.{has_space_place, space_ratio_same}
use Rattle.ball_check.proofs.balls.is_space_centre.Goals as goal

pub returns : goal.returns
returns c =
    let same = space_ratio_same c.args.centre.now c.space_centre.result c.eq.ensures in
    let is = has_space_place c.args.centre.now c.space_centre.result (space_mean c.args.first.now c.args.totals.now) (denominator_positive c.requires.some) c.space_centre.ensures.lowest c.space_centre.ensures.place in
    (λ yes. is.1 (same.0 yes), λ h. same.1 (is.0 h))

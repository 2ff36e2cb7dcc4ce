use Rattle.ball_sums.specs.Means.{plane_mean}
use Rattle.ball_sums.proofs.MachineMeans.{denominator_positive}
use Rattle.exact_fractions.proofs.UniqueForms.{has_plane_place, plane_ratio_same}
use Rattle.ball_check.proofs.balls.is_plane_centre.Goals as goal

pub returns : goal.returns
returns c =
    let same = plane_ratio_same c.args.centre.now c.plane_centre.result c.eq.ensures in
    let is = has_plane_place c.args.centre.now c.plane_centre.result (plane_mean c.args.first.now c.args.totals.now) (denominator_positive c.requires.some) c.plane_centre.ensures.lowest c.plane_centre.ensures.place in
    (λ yes. is.1 (same.0 yes), λ h. same.1 (is.0 h))

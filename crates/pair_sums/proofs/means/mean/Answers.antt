use Rattle.std.proofs.Common.{subst, FitsSigned, rules, to_z-of_z}
use mir.Syntax.{w128}
use Rattle.bounds_model.specs.Space.{SamePlace}
use Rattle.pair_sums.proofs.Ratios.{denominator}
use Rattle.pair_sums.proofs.means.mean.Goals as goal
use Rattle.exact_fractions.proofs.UniqueForms.{space_ratio_by}

pub returns-clause-place : goal.returns-clause-place
returns-clause-place c =
    let fits_x : FitsSigned w128 c.args.sum.x = search rules in
    let fits_y : FitsSigned w128 c.args.sum.y = search rules in
    let fits_z : FitsSigned w128 c.args.sum.z = search rules in
    subst (SamePlace c.new.result) (space_ratio_by (to_z-of_z fits_x) (to_z-of_z fits_y) (to_z-of_z fits_z) (denominator c.requires.weight)) c.new.ensures.place

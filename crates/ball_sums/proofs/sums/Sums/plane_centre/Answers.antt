use Rattle.std.proofs.Common.{refl, subst, ◌≤◌, ◌^◌, inl, FitsSigned, w32, rules}
use mir.Syntax.{w128}
use Rattle.bounds_model.specs.Space.{SamePlace, flat_ratio}
use Rattle.ball_sums.proofs.SumSizes.{weight_most}
use Rattle.ball_sums.proofs.MachineMeans.{entry, denominator}
use Rattle.exact_fractions.proofs.UniqueForms.{plane_ratio_by}
use Rattle.ball_sums.proofs.sums.Sums.plane_centre.Goals as goal

pub returns-clause-place : goal.returns-clause-place
returns-clause-place c =
    let s = c.args.self.now in
    let fits_x : FitsSigned w128 c.mean-x.result = search rules in
    let fits_y : FitsSigned w128 c.mean-y.result = search rules in
    let fits_a : FitsSigned w32 c.x.result = search rules in
    let fits_b : FitsSigned w32 c.y.result = search rules in
    let fits_p : FitsSigned w128 c.args.self.now.pull.x = search rules in
    let fits_q : FitsSigned w128 c.args.self.now.pull.y = search rules in
    let in_x = entry s.weight fits_x fits_a fits_p c.mean-x.ensures.value c.x.ensures.value in
    let in_y = entry s.weight fits_y fits_b fits_q c.mean-y.ensures.value c.y.ensures.value in
    let below : s.weight ≤ 2 ^ 92 = weight_most {dim = 2} (inl refl) c.requires.range.weight in
    subst (λ v. SamePlace (flat_ratio c.new.result) (flat_ratio v)) (plane_ratio_by in_x in_y (denominator below)) c.new.ensures.place

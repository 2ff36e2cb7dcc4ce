use Rattle.std.proofs.Common.{refl, subst, ◌≤◌, ◌^◌, inr, FitsSigned, w32, rules}
use mir.Syntax.{w128}
use Rattle.bounds_model.specs.Space.{SamePlace}
use Rattle.ball_sums.proofs.SumSizes.{weight_most}
use Rattle.ball_sums.proofs.MachineMeans.{entry, denominator}
use Rattle.exact_fractions.proofs.UniqueForms.{space_ratio_by}
use Rattle.ball_sums.proofs.sums.Sums.space_centre.Goals as goal

pub returns-clause-place : goal.returns-clause-place
returns-clause-place c =
    let s = c.args.self.now in
    let fits_x : FitsSigned w128 c.mean-x.result = search rules in
    let fits_y : FitsSigned w128 c.mean-y.result = search rules in
    let fits_z : FitsSigned w128 c.mean-z.result = search rules in
    let fits_a : FitsSigned w32 c.x.result = search rules in
    let fits_b : FitsSigned w32 c.y.result = search rules in
    let fits_c : FitsSigned w32 c.z.result = search rules in
    let fits_p : FitsSigned w128 c.args.self.now.pull.x = search rules in
    let fits_q : FitsSigned w128 c.args.self.now.pull.y = search rules in
    let fits_r : FitsSigned w128 c.args.self.now.pull.z = search rules in
    let in_x = entry s.weight fits_x fits_a fits_p c.mean-x.ensures.value c.x.ensures.value in
    let in_y = entry s.weight fits_y fits_b fits_q c.mean-y.ensures.value c.y.ensures.value in
    let in_z = entry s.weight fits_z fits_c fits_r c.mean-z.ensures.value c.z.ensures.value in
    let below : s.weight ≤ 2 ^ 92 = weight_most {dim = 3} (inr refl) c.requires.range.weight in
    subst (λ v. SamePlace c.new.result v) (space_ratio_by in_x in_y in_z (denominator below)) c.new.ensures.place

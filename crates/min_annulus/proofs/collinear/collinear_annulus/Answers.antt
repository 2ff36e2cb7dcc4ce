use Rattle.std.proofs.Common.{sym, ◌∙◌, ap, ap₂, subst, rules, map, length, ◌++◌, SFits, to_z-of_z, pos}
use mir.Syntax.{w64, w128}
use mir.Val.{of_z}
use Rattle.bounds_model.specs.Plane.{point_at}
use Rattle.bounds_model.specs.Space.{SamePlace, flat_ratio}
use Rattle.bounded_coords.specs.Clouds.{points_of}
use Rattle.min_annulus.specs.LinearForms.{level, centre_of, middle_form}
use Rattle.pair_weights.specs.Extremes.{AreExtremes}
use Rattle.min_annulus.specs.DifferenceVectors.{dot}
use Rattle.answers.specs.Answers.{pair_of}
use Rattle.min_annulus.specs.Witnesses.{weighted, ShowSize}
use Rattle.min_annulus.proofs.MachineNumbers.{same_bits, apart_y}
use Rattle.min_annulus.proofs.NumberedPoints.{point_is}
use Rattle.min_annulus.proofs.CollinearPoints.{two_show, one_shows}
use Rattle.min_annulus.proofs.collinear.collinear_annulus.Goals as goal

pub annulus_around-requires-clause-pairs : goal.annulus_around-requires-clause-pairs
annulus_around-requires-clause-pairs c =
    let points = points_of c.args.cloud in
    let flat = same_bits c.extremes_of-extremes.ensures.extremes.high_size c.extremes_of-extremes.ensures.extremes.low_size c.if-extremes.true in
    subst (ShowSize points c.around_middle-form.result c.extremes_of-extremes.result) (sym (c.push_weighted.ensures.items ∙ ap (λ xs. map pair_of xs ++ weighted c.of-same.result (pos 1)) c.new-pairs.ensures))
    (one_shows points c.around_middle-form.result c.extremes_of-extremes.result c.of-same.result c.of-same.ensures.pair (c.of-same.ensures.first ∙ sym c.of-same.ensures.second) flat)

pub returns-then-extremes-clause-center : goal.returns-then-extremes-clause-center
returns-then-extremes-clause-center c =
    let points = points_of c.args.cloud in
    let form_is = c.around_middle-form.ensures.value ∙ ap₂ middle_form (point_is points c.args.least c.at.result.now c.at.ensures) (point_is points c.args.greatest c.at-2.result.now c.at-2.ensures) in
    subst (λ f. SamePlace (flat_ratio c.annulus_around.result.center) (flat_ratio (centre_of f))) form_is c.annulus_around.ensures.center

pub annulus_around-requires-2-clause-pairs : goal.annulus_around-requires-2-clause-pairs
annulus_around-requires-2-clause-pairs c =
    let points = points_of c.args.cloud in
    let form_is = c.around_middle-form.ensures.value ∙ ap₂ middle_form (point_is points c.args.least c.at.result.now c.at.ensures) (point_is points c.args.greatest c.at-2.result.now c.at-2.ensures) in
    let fits : SFits w64 c.dot.result = search rules in
    let fits_2 : SFits w64 c.dot-2.result = search rules in
    let first = c.push_weighted-2.ensures.items ∙ ap₂ (λ xs w. map pair_of xs ++ weighted c.of-left.result w) c.new-pairs.ensures (to_z-of_z fits ∙ c.dot.ensures) in
    let both = c.push_weighted-3.ensures.items ∙ ap₂ (λ xs w. xs ++ weighted c.of-right.result w) first (to_z-of_z fits_2 ∙ c.dot-2.ensures) in
    subst (ShowSize points c.around_middle-form.result c.extremes_of-extremes.result) (sym both)
    (subst (λ f. ShowSize points f c.extremes_of-extremes.result (weighted c.of-left.result (dot c.of-whole.result.difference c.of-right.result.difference) ++ weighted c.of-right.result (dot c.of-whole.result.difference c.of-done.result.difference))) (sym form_is)
    (two_show points c.args.least c.args.greatest c.extremes_of-extremes.result c.of-whole.result c.of-done.result c.of-left.result c.of-right.result c.requires
    (subst (λ f. AreExtremes (λ i. level f (point_at points i)) (length points) c.extremes_of-extremes.result) form_is c.extremes_of-extremes.ensures.extremes)
    c.of-whole.ensures.pair c.of-whole.ensures.first c.of-whole.ensures.second
    c.of-done.ensures.pair c.of-done.ensures.first c.of-done.ensures.second
    c.of-left.ensures.pair c.of-left.ensures.first c.of-left.ensures.second
    c.of-right.ensures.pair c.of-right.ensures.first c.of-right.ensures.second
    (apart_y (c.extremes_of-extremes.ensures.inside c.extremes_of-extremes.result.far c.extremes_of-extremes.ensures.extremes.far) (c.extremes_of-extremes.ensures.inside c.args.least c.requires.first_listed))
    (λ same. c.if-extremes.false (ap (of_z w128) same))))

pub returns-clause-center : goal.returns-clause-center
returns-clause-center c =
    let points = points_of c.args.cloud in
    let form_is = c.around_middle-form.ensures.value ∙ ap₂ middle_form (point_is points c.args.least c.at.result.now c.at.ensures) (point_is points c.args.greatest c.at-2.result.now c.at-2.ensures) in
    subst (λ f. SamePlace (flat_ratio c.annulus_around-2.result.center) (flat_ratio (centre_of f))) form_is c.annulus_around-2.ensures.center

use Rattle.std.proofs.Common.{subst, ℤ, pos, ◌-ℤ◌, ◌≤ℤ◌, nat_abs, arith, [], ◌∷◌}
use Rattle.std.proofs.lemmas.Int.{ints}
use Rattle.integers.proofs.Sizes.{size_sub, size_more, wrap_is_in}
use mir.Syntax.{w64}
use Rattle.integers.proofs.MachineArithmetic.{given, with_inputs, codes, computes}
use Rattle.bounds_model.specs.Fractions.{SameValue}
use Rattle.bounded_coords.specs.Clouds.{points_of}
use Rattle.min_annulus.specs.LinearForms.{squared_radius_of}
use Rattle.min_annulus.proofs.MachineNumbers.{cast_fits, cast_value, back64, back128}
use Rattle.min_annulus.proofs.SameRecords.{same_fraction}
use Rattle.min_annulus.proofs.NumberedPoints.{point_is}
use Rattle.min_annulus.proofs.LowestPairs.{lowest_show, shown_weights}
use Rattle.min_annulus.proofs.Passing.{annulus_passes, range_nonneg}
use Rattle.min_annulus.proofs.answering.annulus_around.Goals as goal

positive : {z : ℤ} → pos 1 ≤ℤ z → pos 0 ≤ℤ z
positive h = omega (arith, ints)

pub overflow_cast-extremes : goal.overflow_cast-extremes
overflow_cast-extremes c = cast_fits (c.args.extremes.high -ℤ c.args.extremes.low) (with_inputs (given c.requires.extremes.high_size ∷ given c.requires.extremes.low_size ∷ []) (λ xs h p q. simp (p, q, codes) (computes xs h _ _ tt tt))) (range_nonneg (points_of c.args.cloud) c.args.form c.args.extremes c.requires.extremes) (size_more (size_sub c.requires.extremes.high_size c.requires.extremes.low_size) tt)

pub in_lowest_terms-requires : goal.in_lowest_terms-requires
in_lowest_terms-requires c = (omega arith, shown_weights (points_of c.args.cloud) c.args.form c.args.extremes c.args.pairs.now.items c.requires.pairs)

pub returns-clause-passes : goal.returns-clause-passes
returns-clause-passes c =
    let points = points_of c.args.cloud in
    let near = point_is points c.args.extremes.near c.at.result.now c.at.ensures in
    let far = point_is points c.args.extremes.far c.at-2.result.now c.at-2.ensures in
    annulus_passes points c.args.form c.args.extremes _ c.args.cloud.limited c.requires.form c.requires.some c.requires.extremes (lowest_show points c.args.form c.args.extremes c.args.pairs.now.items c.in_lowest_terms.result.items c.in_lowest_terms.ensures c.requires.pairs)
    (same_fraction c.new.result (record { n = c.args.extremes.high -ℤ c.args.extremes.low; d = c.args.form.w }) (pos (nat_abs (back128 (back128 c.args.extremes.high -ℤ back128 c.args.extremes.low)))) (pos (nat_abs (back64 c.args.form.w))) c.new.ensures.value (cast_value (back128 (back128 c.args.extremes.high -ℤ back128 c.args.extremes.low)) (c.args.extremes.high -ℤ c.args.extremes.low) (with_inputs (given c.requires.extremes.high_size ∷ given c.requires.extremes.low_size ∷ []) (λ xs h p q. simp (p, q, codes) (computes xs h _ _ tt tt))) (range_nonneg (points_of c.args.cloud) c.args.form c.args.extremes c.requires.extremes)) (cast_value (back64 c.args.form.w) c.args.form.w (wrap_is_in w64 c.requires.form.w tt) (positive c.requires.some))) c.new.ensures.lowest
    c.center.ensures.place c.center.ensures.lowest
    (subst (λ p. SameValue c.squared_radius.result (squared_radius_of c.args.form p)) near c.squared_radius.ensures.value) c.squared_radius.ensures.lowest
    (subst (λ p. SameValue c.squared_radius-2.result (squared_radius_of c.args.form p)) far c.squared_radius-2.ensures.value) c.squared_radius-2.ensures.lowest

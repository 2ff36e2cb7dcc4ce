use Rattle.std.proofs.Common.{◌∙◌, sym, ap, subst, ◌^◌, ℤ, pos, ◌-ℤ◌, ◌*ℤ◌, ◌≤ℤ◌, nat_abs, arith, [], ◌∷◌, SFits, to_z-of_z, rules}
use Rattle.std.proofs.lemmas.Int.{ints}
use Rattle.integers.specs.Size.{Size}
use Rattle.integers.proofs.Sizes.{size_sub, size_more, wrap_is_in}
use mir.Syntax.{w64, w128}
use Rattle.integers.proofs.MachineArithmetic.{given, with_inputs, codes, computes, fits}
use Rattle.bounded_coords.specs.Clouds.{points_of}
use Rattle.bounds_model.specs.ShellAnswer.{power}
use Rattle.min_shell.specs.LinearForms.{centre_of}
use Rattle.min_shell.proofs.MachineNumbers.{cast_fits, cast_value, cast_limit, back64, back128}
use Rattle.min_shell.proofs.SameRecords.{same_fraction}
use Rattle.min_shell.proofs.NumberedPoints.{point_is}
use Rattle.min_shell.proofs.LowestPairs.{lowest_show, shown_weights}
use Rattle.min_shell.proofs.Passing.{shell_passes, range_nonneg, centre_sizes}
use Rattle.min_shell.proofs.KeptDirections.{same_zero}
use Rattle.min_shell.proofs.answering.shell_around.Goals as goal

positive : {z : ℤ} → pos 1 ≤ℤ z → pos 0 ≤ℤ z
positive h = omega (arith, ints)

pub overflow_sub-extremes : goal.overflow_sub-extremes
overflow_sub-extremes c = with_inputs (given c.requires.extremes.high_size ∷ given c.requires.extremes.low_size ∷ []) (λ xs h v0 v1. simp (v0, v1, codes) (fits xs h w128 _ tt))

pub overflow_cast-extremes : goal.overflow_cast-extremes
overflow_cast-extremes c = cast_fits (c.args.extremes.high -ℤ c.args.extremes.low) (with_inputs (given c.requires.extremes.high_size ∷ given c.requires.extremes.low_size ∷ []) (λ xs h v0 v1. simp (v0, v1, codes) (computes xs h _ _ tt tt))) (range_nonneg (points_of c.args.cloud) c.args.form c.args.extremes c.requires.extremes) (size_more (size_sub c.requires.extremes.high_size c.requires.extremes.low_size) tt)

pub overflow_cast-form : goal.overflow_cast-form
overflow_cast-form c = cast_fits c.args.form.w (wrap_is_in w64 c.requires.form.w tt) (positive c.requires.some) (size_more c.requires.form.w tt)

pub new-requires-clause-numerator : goal.new-requires-clause-numerator
new-requires-clause-numerator c = cast_limit (back128 (back128 c.args.extremes.high -ℤ back128 c.args.extremes.low)) (c.args.extremes.high -ℤ c.args.extremes.low) (with_inputs (given c.requires.extremes.high_size ∷ given c.requires.extremes.low_size ∷ []) (λ xs h v0 v1. simp (v0, v1, codes) (computes xs h _ _ tt tt))) (size_more (size_sub c.requires.extremes.high_size c.requires.extremes.low_size) tt)

pub level_around-requires-clause-x : goal.level_around-requires-clause-x
level_around-requires-clause-x c = (centre_sizes c.args.form c.center-center.result c.requires.form c.requires.some c.center-center.ensures.place c.center-center.ensures.lowest).0

pub level_around-requires-clause-y : goal.level_around-requires-clause-y
level_around-requires-clause-y c = (centre_sizes c.args.form c.center-center.result c.requires.form c.requires.some c.center-center.ensures.place c.center-center.ensures.lowest).1

pub level_around-requires-clause-z : goal.level_around-requires-clause-z
level_around-requires-clause-z c = (centre_sizes c.args.form c.center-center.result c.requires.form c.requires.some c.center-center.ensures.place c.center-center.ensures.lowest).2

pub level_around-requires-clause-w : goal.level_around-requires-clause-w
level_around-requires-clause-w c = (centre_sizes c.args.form c.center-center.result c.requires.form c.requires.some c.center-center.ensures.place c.center-center.ensures.lowest).3

pub level_around-requires-2-clause-x : goal.level_around-requires-2-clause-x
level_around-requires-2-clause-x c = (centre_sizes c.args.form c.center-center.result c.requires.form c.requires.some c.center-center.ensures.place c.center-center.ensures.lowest).0

pub level_around-requires-2-clause-y : goal.level_around-requires-2-clause-y
level_around-requires-2-clause-y c = (centre_sizes c.args.form c.center-center.result c.requires.form c.requires.some c.center-center.ensures.place c.center-center.ensures.lowest).1

pub level_around-requires-2-clause-z : goal.level_around-requires-2-clause-z
level_around-requires-2-clause-z c = (centre_sizes c.args.form c.center-center.result c.requires.form c.requires.some c.center-center.ensures.place c.center-center.ensures.lowest).2

pub level_around-requires-2-clause-w : goal.level_around-requires-2-clause-w
level_around-requires-2-clause-w c = (centre_sizes c.args.form c.center-center.result c.requires.form c.requires.some c.center-center.ensures.place c.center-center.ensures.lowest).3

pub in_lowest_terms-requires : goal.in_lowest_terms-requires
in_lowest_terms-requires c = (omega arith, shown_weights (points_of c.args.cloud) c.args.form c.args.extremes c.args.pairs.now.items c.requires.pairs)

pub returns-clause-passes : goal.returns-clause-passes
returns-clause-passes c =
    let points = points_of c.args.cloud in
    let near = point_is points c.args.extremes.near c.at.result.now c.at.ensures in
    let far = point_is points c.args.extremes.far c.at-2.result.now c.at-2.ensures in
    let fits_low : SFits w128 c.level_around.result = search rules in
    let fits_high : SFits w128 c.level_around-2.result = search rules in
    shell_passes points c.args.form c.args.extremes _ c.args.cloud.limited c.requires.form c.requires.some c.requires.extremes (lowest_show points c.args.form c.args.extremes c.args.pairs.now.items c.in_lowest_terms.result.items c.in_lowest_terms.ensures c.requires.pairs)
    (same_fraction c.new.result (record { n = c.args.extremes.high -ℤ c.args.extremes.low; d = c.args.form.w }) (pos (nat_abs (back128 (back128 c.args.extremes.high -ℤ back128 c.args.extremes.low)))) (pos (nat_abs (back64 c.args.form.w))) c.new.ensures.value
    (cast_value (back128 (back128 c.args.extremes.high -ℤ back128 c.args.extremes.low)) (c.args.extremes.high -ℤ c.args.extremes.low) (with_inputs (given c.requires.extremes.high_size ∷ given c.requires.extremes.low_size ∷ []) (λ xs h v0 v1. simp (v0, v1, codes) (computes xs h _ _ tt tt))) (range_nonneg (points_of c.args.cloud) c.args.form c.args.extremes c.requires.extremes))
    (cast_value (back64 c.args.form.w) c.args.form.w (wrap_is_in w64 c.requires.form.w tt) (positive c.requires.some))) c.new.ensures.lowest
    c.center-center.ensures.place c.center-center.ensures.lowest
    (to_z-of_z fits_low ∙ c.level_around.ensures.value ∙ ap (power c.center-center.result) near) (subst (Size (2 ^ 90)) (sym (to_z-of_z fits_low)) c.level_around.ensures.size)
    (to_z-of_z fits_high ∙ c.level_around-2.ensures.value ∙ ap (power c.center-center.result) far) (subst (Size (2 ^ 90)) (sym (to_z-of_z fits_high)) c.level_around-2.ensures.size)

pub returns-clause-determined : goal.returns-clause-determined
returns-clause-determined c = same_zero (points_of c.args.cloud) c.center-center.result (centre_of c.args.form) c.center-center.ensures.place (doubled c.requires.some) c.requires.determined
  where
    doubled : {w : ℤ} → pos 1 ≤ℤ w → pos 1 ≤ℤ (pos 2 *ℤ w)
    doubled h = omega (arith, ints)

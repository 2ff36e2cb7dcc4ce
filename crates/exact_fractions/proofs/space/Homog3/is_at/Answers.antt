use Rattle.std.proofs.Common.{rules, sym, ◌∙◌, ap, of_z, FitsSigned, to_z-of_z}
use Rattle.std.proofs.lemmas.Bool.{eqb-true}
use mir.Syntax.{w128}
use Rattle.integers.proofs.Order.{positive_from_one}
use Rattle.exact_fractions.proofs.UniqueForms.{has_space_place, space_ratio_same}
use Rattle.exact_fractions.proofs.space.Homog3.is_at.Goals as goal

pub returns-then-w-clause-place : goal.returns-then-w-clause-place
returns-then-w-clause-place c =
    let fits_x : FitsSigned w128 c.args.x = search rules in
    let fits_y : FitsSigned w128 c.args.y = search rules in
    let fits_z : FitsSigned w128 c.args.z = search rules in
    let fits_w : FitsSigned w128 c.args.w = search rules in
    let place = simp to_z-of_z at c.new-place.ensures.place in
    let same = space_ratio_same c.args.self.now c.new-place.result c.eq.ensures in
    let is = has_space_place c.args.self.now c.new-place.result (record { x = c.args.x; y = c.args.y; z = c.args.z; w = c.args.w }) (positive_from_one c.requires.some) c.new-place.ensures.lowest place in
    (λ yes. (is.1 (same.0 yes)).1, λ h. same.1 (is.0 (c.w.ensures.lowest, h)))

pub returns-else-w-clause-place : goal.returns-else-w-clause-place
returns-else-w-clause-place c =
    let fits_x : FitsSigned w128 c.args.x = search rules in
    let fits_y : FitsSigned w128 c.args.y = search rules in
    let fits_z : FitsSigned w128 c.args.z = search rules in
    let fits_w : FitsSigned w128 c.args.w = search rules in
    let place = simp to_z-of_z at c.new-place.ensures.place in
    let is = has_space_place c.args.self.now c.new-place.result (record { x = c.args.x; y = c.args.y; z = c.args.z; w = c.args.w }) (positive_from_one c.requires.some) c.new-place.ensures.lowest place in
    (λ yes. absurd (c.if-w.false (eqb-true _ _ yes)), λ h. absurd (c.if-w.false (ap (of_z w128) (c.w.ensures.value ∙ ap (λ p. p.w) (is.0 (c.w.ensures.lowest, h)) ∙ sym c.w-2.ensures.value))))

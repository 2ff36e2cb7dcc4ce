use Rattle.std.proofs.Common.{◌∙◌, sym, subst, map, ◌≤◌, arith}
use Rattle.std.specs.Prelude.{Contains}
use Rattle.std.proofs.lemmas.List.{length-map}
use Rattle.bounds_model.specs.Plane.{point_at}
use Rattle.bounded_coords.specs.Clouds.{points_of}
use Rattle.hull_test.proofs.HullReads.{least_is, corner_listed, surround_two, surround_cycle, pass_if}
use Rattle.hull_test.proofs.hulls.is_around.Goals as goal

pub returns-then-numbers-eq2 : goal.returns-then-numbers-eq2
returns-then-numbers-eq2 c =
    let points = points_of c.args.cloud in
    let numbers = c.args.numbers.now in
    let two = surround_two points (map (point_at points) numbers) c.corner-first.result.now c.corner.result.now
    (length-map numbers (point_at points) ∙ c.if-numbers-eq2.true) c.corner-first.ensures c.corner.ensures
    (subst (Contains points) (sym c.corner.ensures) (corner_listed points numbers 1 (omega (arith, c.if-numbers-eq2.true)) c.requires.below)) in
    pass_if points (map (point_at points) numbers) (least_is points numbers c.corner-first.result.now c.requires.as_many.at_least c.requires.below c.corner-first.ensures
    (c.is_least.ensures.0 c.if-not-is_least.false)) (c.is_once.ensures.0 c.if-not-is_once.false)
    (λ yes. two.0 (c.lead_to_greatest.ensures.0 yes), λ h. c.lead_to_greatest.ensures.1 (two.1 h))

pub returns : goal.returns
returns c =
    let points = points_of c.args.cloud in
    let numbers = c.args.numbers.now in
    let cycle = surround_cycle points (map (point_at points) numbers) (subst (λ n. 3 ≤ n) (sym (length-map numbers (point_at points)))
    (omega (arith, c.requires.as_many.at_least, c.if-numbers-eq1.false, c.if-numbers-eq2.false))) in
    pass_if points (map (point_at points) numbers) (least_is points numbers c.corner-first.result.now c.requires.as_many.at_least c.requires.below c.corner-first.ensures
    (c.is_least.ensures.0 c.if-not-is_least.false)) (c.is_once.ensures.0 c.if-not-is_once.false)
    (λ yes. cycle.0 (c.go_around.ensures.0 yes), λ h. c.go_around.ensures.1 (cycle.1 h))

use Rattle.std.proofs.Common.{◌∙◌, ap, subst, map, arith}
use Rattle.std.proofs.lemmas.List.{take_all, length-map}
use Rattle.bounds_model.specs.ShellAnswer.{power}
use Rattle.bounded_coords.specs.Clouds.{points_of}
use Rattle.ring_check.specs.Rings.{ratio_of, AreLevels}
use Rattle.ring_check.proofs.RingLevels.{one_level, more_levels}
use Rattle.ring_check.proofs.levels.Levels.of.Goals as goal

pub loop-i-init : goal.loop-i-init
loop-i-init g c =
    one_level g.P.Place.place (ratio_of c.args.centre) (points_of c.args.cloud) c.at.result.now c.level-first.result c.requires c.at.ensures
    (c.level-first.ensures.value ∙ ap (power (ratio_of c.args.centre)) c.vector.ensures.value) c.level-first.ensures.size

pub loop-i-preserved : goal.loop-i-preserved
loop-i-preserved g c =
    more_levels g.P.Place.place (ratio_of c.args.centre) (points_of c.args.cloud) c.loop-i.i c.loop-i.levels c.at-in-loop-i.result.now c.level-level.result c.max.result c.min.result c.requires (omega arith) c.at-in-loop-i.ensures
    c.loop-i.invariant (c.level-level.ensures.value ∙ ap (power (ratio_of c.args.centre)) c.vector-in-loop-i.ensures.value) c.level-level.ensures.size c.max.ensures.value c.min.ensures.value

pub returns : goal.returns
returns g c =
    let count = c.len-i-end.ensures.count in
    let places = map g.P.Place.place (points_of c.args.cloud) in
    let counted = length-map (points_of c.args.cloud) g.P.Place.place in
    subst (λ ps. AreLevels (ratio_of c.args.centre) ps c.loop-i.levels) (take_all c.loop-i.i places (omega arith)) c.loop-i.invariant

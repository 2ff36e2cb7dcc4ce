use Rattle.std.proofs.Common.{refl, sym, subst, ◌+◌, ◌-◌, arith}
use Rattle.std.specs.Prelude.{slice_index_or}
use Rattle.std.proofs.lemmas.List.{length-map}
use Rattle.std.proofs.lemmas.Option.{slice_get_within}
use Rattle.bounds_model.specs.Plane.{point_at}
use Rattle.bounds_model.specs.Fans.{IsShort, IsQuarterExtreme, quarter_directions}
use Rattle.bounds_model.specs.RectangleAnswer.{IsNotSmaller}
use Rattle.bounded_coords.specs.Clouds.{points_of}
use Rattle.answers.specs.Answers.{quarter_fan_of, quarter_cone_of}
use Rattle.integers.proofs.Lists.{clash}
use Rattle.directions.proofs.FanLists.{cone_at}
use Rattle.fan_checks.proofs.FanLoops.{numbered_more, numbered_at, quarter_first, quarter_short, quarter_names}
use Rattle.fan_checks.proofs.ConeEnds.{rectangle_ends}
use Rattle.fan_checks.proofs.rectangles.is_none_smaller.Goals as goal

pub is_not_smaller-requires-clause-direction : goal.is_not_smaller-requires-clause-direction
is_not_smaller-requires-clause-direction c =
    let fan = c.args.fan.now in
    subst IsShort (quarter_first fan c.loop-i.i c.at-cone.result c.at-cone.ensures) (quarter_short fan c.loop-i.i (omega (arith, slice_get_within fan.cones c.loop-i.i c.at-cone.result c.at-cone.ensures)) c.requires.limits.short)

pub is_not_smaller-requires-clause-named : goal.is_not_smaller-requires-clause-named
is_not_smaller-requires-clause-named c = quarter_names (points_of c.args.cloud) c.args.fan.now c.loop-i.i c.at-cone.result c.at-cone.ensures c.requires.limits.numbers

pub is_not_smaller-requires-clause-extreme : goal.is_not_smaller-requires-clause-extreme
is_not_smaller-requires-clause-extreme c =
    let fan = quarter_fan_of c.args.fan.now in
    let Both = IsQuarterExtreme (points_of c.args.cloud) in
    subst (λ d. Both d (quarter_cone_of c.at-cone.result)) (quarter_first c.args.fan.now c.loop-i.i c.at-cone.result c.at-cone.ensures)
    (numbered_at (λ k x. Both (point_at (quarter_directions fan) k) x × Both (point_at (quarter_directions fan) (k + 1)) x) quarter_cone_of c.args.fan.now.cones c.loop-i.i c.at-cone.result c.at-cone.ensures c.requires.holds.extremes).0

pub is_not_smaller-requires-2-clause-direction : goal.is_not_smaller-requires-2-clause-direction
is_not_smaller-requires-2-clause-direction c =
    let fan = c.args.fan.now in
    let last = c.len-last.result - 1 in
    subst IsShort (sym c.quarter_direction-end.ensures) (quarter_short fan (last + 1) (omega (arith, slice_get_within fan.cones last c.at.result c.at.ensures)) c.requires.limits.short)

pub is_not_smaller-requires-2-clause-named : goal.is_not_smaller-requires-2-clause-named
is_not_smaller-requires-2-clause-named c = quarter_names (points_of c.args.cloud) c.args.fan.now (c.len-last.result - 1) c.at.result c.at.ensures c.requires.limits.numbers

pub is_not_smaller-requires-2-clause-extreme : goal.is_not_smaller-requires-2-clause-extreme
is_not_smaller-requires-2-clause-extreme c =
    let fan = quarter_fan_of c.args.fan.now in
    let Both = IsQuarterExtreme (points_of c.args.cloud) in
    subst (λ d. Both d (quarter_cone_of c.at.result)) (sym c.quarter_direction-end.ensures)
    (numbered_at (λ k x. Both (point_at (quarter_directions fan) k) x × Both (point_at (quarter_directions fan) (k + 1)) x) quarter_cone_of c.args.fan.now.cones (c.len-last.result - 1) c.at.result c.at.ensures c.requires.holds.extremes).1

pub returns-then-not-is_not_smaller : goal.returns-then-not-is_not_smaller
returns-then-not-is_not_smaller c =
    let fan = quarter_fan_of c.args.fan.now in
    let cone = c.at-cone.result in
    let IsNot = IsNotSmaller (points_of c.args.cloud) c.args.size.now in
    let begins = numbered_at (λ k x. IsNot (point_at (quarter_directions fan) k) x × IsNot (point_at (quarter_directions fan) (k + 1)) x) quarter_cone_of c.args.fan.now.cones c.loop-i.i cone c.at-cone.ensures in (
      λ same. absurd (clash same refl),
      λ all. absurd (clash (c.is_not_smaller.ensures.1 (subst (λ d. IsNot d (quarter_cone_of cone)) (quarter_first c.args.fan.now c.loop-i.i cone c.at-cone.ensures) (begins all).0)) c.if-not-is_not_smaller.true),
    )

pub loop-i-preserved : goal.loop-i-preserved
loop-i-preserved c =
    let fan = quarter_fan_of c.args.fan.now in
    let cone = c.at-cone.result in
    let IsNot = IsNotSmaller (points_of c.args.cloud) c.args.size.now in
    numbered_more (λ k x. IsNot (point_at (quarter_directions fan) k) x) quarter_cone_of c.args.fan.now.cones c.loop-i.i cone c.at-cone.ensures c.loop-i.invariant
    (subst (λ d. IsNot d (quarter_cone_of cone)) (sym (quarter_first c.args.fan.now c.loop-i.i cone c.at-cone.ensures)) (c.is_not_smaller.ensures.0 c.if-not-is_not_smaller.false))

pub returns : goal.returns
returns c =
    let points = points_of c.args.cloud in
    let cones = c.args.fan.now.cones in
    let fan = quarter_fan_of c.args.fan.now in
    let last = c.len-last.result - 1 in
    let cone = c.at.result in
    let IsNot = IsNotSmaller points c.args.size.now in (
      λ yes. rectangle_ends points c.args.size.now fan c.requires.holds
          (λ k d l. c.loop-i.invariant k d (omega (arith, l, length-map cones quarter_cone_of, c.len-i-end.ensures.count, c.loop-i-test.false)))
          (λ k d is. subst (λ j. IsNot (point_at (quarter_directions fan) (j + 1)) (slice_index_or fan.cones j d)) (omega (arith, is, length-map cones quarter_cone_of, c.len-last.ensures.count))
          (subst (IsNot (point_at (quarter_directions fan) (last + 1))) (sym (cone_at quarter_cone_of cones last cone d c.at.ensures)) (subst (λ u. IsNot u (quarter_cone_of cone)) c.quarter_direction-end.ensures (c.is_not_smaller-2.ensures.0 yes)))),
      λ all. c.is_not_smaller-2.ensures.1 (subst (λ u. IsNot u (quarter_cone_of cone)) (sym c.quarter_direction-end.ensures)
          (numbered_at (λ k x. IsNot (point_at (quarter_directions fan) k) x × IsNot (point_at (quarter_directions fan) (k + 1)) x) quarter_cone_of cones last cone c.at.ensures all).1),
    )

use Rattle.std.proofs.Common.{refl, sym, subst, ◌+◌, ◌-◌, arith}
use Rattle.std.specs.Prelude.{slice_index_or}
use Rattle.std.proofs.lemmas.List.{length-map}
use Rattle.std.proofs.lemmas.Option.{slice_get_within}
use Rattle.bounds_model.specs.Plane.{point_at}
use Rattle.bounds_model.specs.Fans.{IsShort, half_directions}
use Rattle.bounds_model.specs.StripAnswer.{IsNotThinner}
use Rattle.bounded_coords.specs.Clouds.{points_of}
use Rattle.answers.specs.Answers.{half_fan_of, half_cone_of}
use Rattle.integers.proofs.Lists.{clash}
use Rattle.directions.proofs.FanLists.{cone_at}
use Rattle.fan_checks.proofs.FanLoops.{numbered_more, numbered_at, half_first, half_short, half_names}
use Rattle.fan_checks.proofs.ConeEnds.{strip_ends}
use Rattle.fan_checks.proofs.strips.is_none_narrower.Goals as goal

pub is_not_narrower-requires-clause-direction : goal.is_not_narrower-requires-clause-direction
is_not_narrower-requires-clause-direction c =
    let fan = c.args.fan.now in
    subst IsShort (half_first fan c.loop-i.i c.at-cone.result c.at-cone.ensures) (half_short fan c.loop-i.i (omega (arith, slice_get_within fan.cones c.loop-i.i c.at-cone.result c.at-cone.ensures)) c.requires.limits.short)

pub is_not_narrower-requires-clause-hi : goal.is_not_narrower-requires-clause-hi
is_not_narrower-requires-clause-hi c = (half_names (points_of c.args.cloud) c.args.fan.now c.loop-i.i c.at-cone.result c.at-cone.ensures c.requires.limits.numbers).0

pub is_not_narrower-requires-clause-lo : goal.is_not_narrower-requires-clause-lo
is_not_narrower-requires-clause-lo c = (half_names (points_of c.args.cloud) c.args.fan.now c.loop-i.i c.at-cone.result c.at-cone.ensures c.requires.limits.numbers).1

pub is_not_narrower-requires-2-clause-hi : goal.is_not_narrower-requires-2-clause-hi
is_not_narrower-requires-2-clause-hi c = (half_names (points_of c.args.cloud) c.args.fan.now (c.len-last.result - 1) c.at.result c.at.ensures c.requires.limits.numbers).0

pub is_not_narrower-requires-2-clause-lo : goal.is_not_narrower-requires-2-clause-lo
is_not_narrower-requires-2-clause-lo c = (half_names (points_of c.args.cloud) c.args.fan.now (c.len-last.result - 1) c.at.result c.at.ensures c.requires.limits.numbers).1

pub returns-then-not-is_not_narrower : goal.returns-then-not-is_not_narrower
returns-then-not-is_not_narrower c =
    let fan = half_fan_of c.args.fan.now in
    let cone = c.at-cone.result in
    let IsNot = IsNotThinner (points_of c.args.cloud) c.args.size.now in
    let begins = numbered_at (λ k x. IsNot (point_at (half_directions fan) k) x × IsNot (point_at (half_directions fan) (k + 1)) x) half_cone_of c.args.fan.now.cones c.loop-i.i cone c.at-cone.ensures in (
      λ same. absurd (clash same refl),
      λ all. absurd (clash (c.is_not_narrower.ensures.1 (subst (λ d. IsNot d (half_cone_of cone)) (half_first c.args.fan.now c.loop-i.i cone c.at-cone.ensures) (begins all).0)) c.if-not-is_not_narrower.true),
    )

pub loop-i-preserved : goal.loop-i-preserved
loop-i-preserved c =
    let fan = half_fan_of c.args.fan.now in
    let cone = c.at-cone.result in
    let IsNot = IsNotThinner (points_of c.args.cloud) c.args.size.now in
    numbered_more (λ k x. IsNot (point_at (half_directions fan) k) x) half_cone_of c.args.fan.now.cones c.loop-i.i cone c.at-cone.ensures c.loop-i.invariant
    (subst (λ d. IsNot d (half_cone_of cone)) (sym (half_first c.args.fan.now c.loop-i.i cone c.at-cone.ensures)) (c.is_not_narrower.ensures.0 c.if-not-is_not_narrower.false))

pub returns : goal.returns
returns c =
    let points = points_of c.args.cloud in
    let cones = c.args.fan.now.cones in
    let fan = half_fan_of c.args.fan.now in
    let last = c.len-last.result - 1 in
    let cone = c.at.result in
    let IsNot = IsNotThinner points c.args.size.now in (
      λ yes. strip_ends points c.args.size.now fan c.requires.holds
          (λ k d l. c.loop-i.invariant k d (omega (arith, l, length-map cones half_cone_of, c.len-i-end.ensures.count, c.loop-i-test.false)))
          (λ k d is. subst (λ j. IsNot (point_at (half_directions fan) (j + 1)) (slice_index_or fan.cones j d)) (omega (arith, is, length-map cones half_cone_of, c.len-last.ensures.count))
          (subst (IsNot (point_at (half_directions fan) (last + 1))) (sym (cone_at half_cone_of cones last cone d c.at.ensures)) (subst (λ u. IsNot u (half_cone_of cone)) c.half_direction-end.ensures (c.is_not_narrower-2.ensures.0 yes)))),
      λ all. c.is_not_narrower-2.ensures.1 (subst (λ u. IsNot u (half_cone_of cone)) (sym c.half_direction-end.ensures)
          (numbered_at (λ k x. IsNot (point_at (half_directions fan) k) x × IsNot (point_at (half_directions fan) (k + 1)) x) half_cone_of cones last cone c.at.ensures all).1),
    )

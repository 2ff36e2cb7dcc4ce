use Rattle.std.proofs.Common.{refl, sym, subst, ◌+◌, ◌-◌, arith}
use Rattle.std.specs.Prelude.{slice_index_or}
use Rattle.std.proofs.lemmas.List.{length-map}
use Rattle.std.proofs.lemmas.Option.{slice_get_within}
use Rattle.bounds_model.specs.Plane.{point_at}
use Rattle.bounds_model.specs.Fans.{IsShort, IsHalfExtreme, half_directions}
use Rattle.bounds_model.specs.ParallelogramAnswer.{IsShortChord, IsNotSmallerAt}
use Rattle.bounded_coords.specs.Clouds.{points_of}
use Rattle.answers.specs.Answers.{vector_of, half_fan_of, half_cone_of, chord_of, parallelogram_of}
use Rattle.integers.proofs.Lists.{clash}
use Rattle.directions.proofs.FanLists.{cone_at, seen_at}
use Rattle.fan_checks.proofs.FanLoops.{numbered_more, numbered_at, half_first, half_short, half_names}
use Rattle.fan_checks.proofs.ChordLoops.{asked_at, asked_at_both_ends}
use Rattle.fan_checks.proofs.parallelograms.is_none_smaller.Goals as goal

pub is_not_smaller-requires-clause-direction : goal.is_not_smaller-requires-clause-direction
is_not_smaller-requires-clause-direction c =
    let fan = c.args.a.now.fan in
    subst IsShort (half_first fan c.loop-i.i c.at-cone.result c.at-cone.ensures) (half_short fan c.loop-i.i (omega (arith, slice_get_within fan.cones c.loop-i.i c.at-cone.result c.at-cone.ensures)) c.requires.limits.short)

pub is_not_smaller-requires-clause-hi : goal.is_not_smaller-requires-clause-hi
is_not_smaller-requires-clause-hi c = (half_names (points_of c.args.cloud) c.args.a.now.fan c.loop-i.i c.at-cone.result c.at-cone.ensures c.requires.limits.numbers).0

pub is_not_smaller-requires-clause-lo : goal.is_not_smaller-requires-clause-lo
is_not_smaller-requires-clause-lo c = (half_names (points_of c.args.cloud) c.args.a.now.fan c.loop-i.i c.at-cone.result c.at-cone.ensures c.requires.limits.numbers).1

pub is_not_smaller-requires-clause-extreme : goal.is_not_smaller-requires-clause-extreme
is_not_smaller-requires-clause-extreme c =
    let fan = half_fan_of c.args.a.now.fan in
    let Both = IsHalfExtreme (points_of c.args.cloud) in
    subst (λ d. Both d (half_cone_of c.at-cone.result)) (half_first c.args.a.now.fan c.loop-i.i c.at-cone.result c.at-cone.ensures)
    (numbered_at (λ k cone. Both (point_at (half_directions fan) k) cone × Both (point_at (half_directions fan) (k + 1)) cone) half_cone_of c.args.a.now.fan.cones c.loop-i.i c.at-cone.result c.at-cone.ensures c.requires.holds.extremes).0

pub is_not_smaller-requires-clause-chord : goal.is_not_smaller-requires-clause-chord
is_not_smaller-requires-clause-chord c = seen_at IsShortChord chord_of c.args.a.now.chords c.loop-i.i c.at.result c.at.ensures c.requires.chords.short

pub is_not_smaller-requires-2-clause-hi : goal.is_not_smaller-requires-2-clause-hi
is_not_smaller-requires-2-clause-hi c = (half_names (points_of c.args.cloud) c.args.a.now.fan (c.len-last.result - 1) c.at-2.result c.at-2.ensures c.requires.limits.numbers).0

pub is_not_smaller-requires-2-clause-lo : goal.is_not_smaller-requires-2-clause-lo
is_not_smaller-requires-2-clause-lo c = (half_names (points_of c.args.cloud) c.args.a.now.fan (c.len-last.result - 1) c.at-2.result c.at-2.ensures c.requires.limits.numbers).1

pub is_not_smaller-requires-2-clause-extreme : goal.is_not_smaller-requires-2-clause-extreme
is_not_smaller-requires-2-clause-extreme c =
    let fan = half_fan_of c.args.a.now.fan in
    let Both = IsHalfExtreme (points_of c.args.cloud) in
    subst (λ d. Both d (half_cone_of c.at-2.result)) (sym c.half_direction-end.ensures)
    (numbered_at (λ k cone. Both (point_at (half_directions fan) k) cone × Both (point_at (half_directions fan) (k + 1)) cone) half_cone_of c.args.a.now.fan.cones (c.len-last.result - 1) c.at-2.result c.at-2.ensures c.requires.holds.extremes).1

pub is_not_smaller-requires-2-clause-chord : goal.is_not_smaller-requires-2-clause-chord
is_not_smaller-requires-2-clause-chord c = seen_at IsShortChord chord_of c.args.a.now.chords (c.len-last.result - 1 + 1) c.at-3.result c.at-3.ensures c.requires.chords.short

pub returns-then-not-is_not_smaller : goal.returns-then-not-is_not_smaller
returns-then-not-is_not_smaller c =
    let points = points_of c.args.cloud in
    let a = c.args.a.now in
    let cone = c.at-cone.result in
    let IsNot = IsNotSmallerAt points (parallelogram_of a) in
    let asked = asked_at points a c.loop-i.i c.at.result (vector_of cone.dir) (half_cone_of cone) c.at.ensures (half_first a.fan c.loop-i.i cone c.at-cone.ensures) in (
      λ same. absurd (clash same refl),
      λ all. absurd (clash (c.is_not_smaller.ensures.1 (asked.0 (numbered_at (λ k x. IsNot k x × IsNot (k + 1) x) half_cone_of a.fan.cones c.loop-i.i cone c.at-cone.ensures all).0)) c.if-not-is_not_smaller.true),
    )

pub loop-i-preserved : goal.loop-i-preserved
loop-i-preserved c =
    let points = points_of c.args.cloud in
    let a = c.args.a.now in
    let cone = c.at-cone.result in
    let asked = asked_at points a c.loop-i.i c.at.result (vector_of cone.dir) (half_cone_of cone) c.at.ensures (half_first a.fan c.loop-i.i cone c.at-cone.ensures) in
    numbered_more (IsNotSmallerAt points (parallelogram_of a)) half_cone_of a.fan.cones c.loop-i.i cone c.at-cone.ensures c.loop-i.invariant (asked.1 (c.is_not_smaller.ensures.0 c.if-not-is_not_smaller.false))

pub returns : goal.returns
returns c =
    let points = points_of c.args.cloud in
    let a = c.args.a.now in
    let p = parallelogram_of a in
    let last = c.len-last.result - 1 in
    let cone = half_cone_of c.at-2.result in
    let asked = asked_at points a (last + 1) c.at-3.result (vector_of c.half_direction-end.result) cone c.at-3.ensures (sym c.half_direction-end.ensures) in (
      λ yes. asked_at_both_ends points p c.requires.holds
          (λ k d l. c.loop-i.invariant k d (omega (arith, l, length-map a.fan.cones half_cone_of, c.len-i-end.ensures.count, c.loop-i-test.false)))
          (λ k d is. subst (λ j. IsNotSmallerAt points p (j + 1) (slice_index_or p.fan.cones j d)) (omega (arith, is, length-map a.fan.cones half_cone_of, c.len-last.ensures.count))
          (subst (IsNotSmallerAt points p (last + 1)) (sym (cone_at half_cone_of a.fan.cones last c.at-2.result d c.at-2.ensures)) (asked.1 (c.is_not_smaller-2.ensures.0 yes)))),
      λ all. c.is_not_smaller-2.ensures.1 (asked.0 (numbered_at (λ k x. IsNotSmallerAt points p k x × IsNotSmallerAt points p (k + 1) x) half_cone_of a.fan.cones last c.at-2.result c.at-2.ensures all).1),
    )

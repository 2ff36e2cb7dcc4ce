use Rattle.std.proofs.Common.{sym, ◌∙◌, ap, subst, ◌+◌, ◌<◌, length, map, arith}
use Rattle.bounds_model.specs.Fans as fans
use Rattle.bounds_model.specs.ParallelogramAnswer.{PassesParallelogram}
use Rattle.bounded_coords.specs.Clouds.{points_of}
use Rattle.answers.specs.Answers.{vector_of, half_fan_of, chord_of, span_of}
use Rattle.parallelogram_strip.specs.FullTurn.{cone_at}
use Rattle.parallelogram_strip.proofs.ConesRead.{around_first, around_named, around_short, cones_length}
use Rattle.directions.proofs.SpanBounds.{AreBounds}
use Rattle.parallelogram_strip.proofs.Passing.{flat_passes}
use Rattle.parallelogram_strip.proofs.flat.flat.Goals as goal

pub span-requires : goal.span-requires
span-requires c =
    let listed : c.args.j < length c.args.fan.cones + length c.args.fan.cones = omega (arith, c.requires.flat.listed, cones_length c.args.fan) in
    let named = around_named (points_of c.args.cloud) c.args.fan c.args.j c.at-cone.result c.requires.fan listed (around_first c.args.fan c.args.j c.at-cone.result c.at-cone.ensures) in
    record {
      direction = around_short c.args.fan c.args.j c.at-cone.result c.requires.fan.short c.at-cone.ensures;
      hi = named.0;
      lo = named.1;
    }

pub span-requires-2 : goal.span-requires-2
span-requires-2 c =
    let listed : 0 < length c.args.fan.cones + length c.args.fan.cones = omega (arith, c.requires.flat.listed, cones_length c.args.fan) in
    let named = around_named (points_of c.args.cloud) c.args.fan 0 c.at-base.result c.requires.fan listed (around_first c.args.fan 0 c.at-base.result c.at-base.ensures) in
    record {
      direction = around_short c.args.fan c.other.result c.at.result c.requires.fan.short c.at.ensures;
      hi = named.0;
      lo = named.1;
    }

pub returns : goal.returns
returns c =
    let points = points_of c.args.cloud in
    let fan = half_fan_of c.args.fan in
    let chords = map chord_of c.in_ok-chords.chords in
    let size = c.new.result in
    let s = span_of c.span.result in
    let t = span_of c.span-2.result in
    let is_cone = around_first c.args.fan c.args.j c.at-cone.result c.at-cone.ensures in
    let is_base = around_first c.args.fan 0 c.at-base.result c.at-base.ensures in
    let is_other = around_first c.args.fan c.other.result c.at.result c.at.ensures in
    let bounds_s = subst (λ (cone : fans.HalfCone). AreBounds points cone.direction cone.high cone.low s) is_cone (record { is = c.span.ensures.bounds; short = c.span.ensures.short }) in
    let bounds_t =
    subst (λ (cone : fans.HalfCone). AreBounds points (cone_at fan c.other.result).direction cone.high cone.low t) is_base
    (subst (λ (cone : fans.HalfCone). AreBounds points cone.direction c.at-base.result.hi c.at-base.result.lo t) is_other (record { is = c.span-2.ensures.bounds; short = c.span-2.ensures.short })) in
    let count = c.in_ok-chords.ensures.count ∙ ap (λ n. n + 1) (c.len.ensures.count ∙ sym (cones_length c.args.fan)) in
    let passes = flat_passes points fan c.args.j c.other.result c.in_ok-chords.chords size s t c.args.cloud.limited c.requires.fan c.requires.flat c.other.ensures count c.in_ok-chords.ensures.chords c.new.ensures.lowest c.new.ensures.value bounds_s bounds_t in
    subst (λ (cone : fans.HalfCone). PassesParallelogram points (record { size = size; first = cone.direction; first_bounds = s; second = vector_of c.at.result.dir; second_bounds = t; fan = fan; chords = chords })) (sym is_cone)
    (subst (λ (cone : fans.HalfCone). PassesParallelogram points (record { size = size; first = (cone_at fan c.args.j).direction; first_bounds = s; second = cone.direction; second_bounds = t; fan = fan; chords = chords })) (sym is_other) passes)

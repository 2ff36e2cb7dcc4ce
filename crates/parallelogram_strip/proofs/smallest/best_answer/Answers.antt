use Rattle.std.proofs.Common.{sym, subst, ◌+◌, ◌<◌, length, map, pos, arith}
use Rattle.bounds_model.specs.Fractions.{SameValue}
use Rattle.bounds_model.specs.Fans as fans
use Rattle.bounds_model.specs.ParallelogramAnswer.{PassesParallelogram}
use Rattle.bounded_coords.specs.Clouds.{points_of}
use Rattle.answers.specs.Answers.{vector_of, half_fan_of, chord_of, span_of}
use Rattle.parallelogram_strip.specs.FullTurn.{cone_at}
use Rattle.parallelogram_strip.specs.Crossings.{weight_of}
use Rattle.parallelogram_strip.proofs.ConesRead.{around_first, around_named, around_short, cones_length, turn_of}
use Rattle.directions.proofs.SpanBounds.{AreBounds}
use Rattle.parallelogram_strip.proofs.Passing.{best_passes}
use Rattle.parallelogram_strip.proofs.smallest.best_answer.Goals as goal

pub span-requires : goal.span-requires
span-requires c =
    let best = c.args.all.best in
    let listed : best.direction < length c.args.fan.cones + length c.args.fan.cones = omega (arith, c.requires.chords.best.listed, cones_length c.args.fan) in
    let named = around_named (points_of c.args.cloud) c.args.fan best.direction c.at-cone.result c.requires.fan listed (around_first c.args.fan best.direction c.at-cone.result c.at-cone.ensures) in
    record {
      direction = around_short c.args.fan best.direction c.at-cone.result c.requires.fan.short c.at-cone.ensures;
      hi = named.0;
      lo = named.1;
    }

pub span-requires-2 : goal.span-requires-2
span-requires-2 c =
    let best = c.args.all.best in
    let listed : best.near + 1 < length c.args.fan.cones + length c.args.fan.cones = omega (arith, c.requires.chords.best.listed, c.requires.chords.best.near.before, cones_length c.args.fan) in
    let named = around_named (points_of c.args.cloud) c.args.fan (best.near + 1) c.cone_at-far.result c.requires.fan listed c.cone_at-far.ensures in
    record {
      direction = subst (λ (cone : fans.HalfCone). fans.IsShort cone.direction) (sym c.cone_at-far.ensures) ((turn_of (points_of c.args.cloud) c.args.fan c.requires.fan).short (best.near + 1) listed);
      hi = named.0;
      lo = named.1;
    }

pub returns : goal.returns
returns c =
    let points = points_of c.args.cloud in
    let fan = half_fan_of c.args.fan in
    let best = c.args.all.best in
    let chords = map chord_of c.args.all.chords in
    let size = c.new.result in
    let s = span_of c.span.result in
    let t = span_of c.span-2.result in
    let is_cone = around_first c.args.fan best.direction c.at-cone.result c.at-cone.ensures in
    let is_far = c.cone_at-far.ensures in
    let same = subst (λ n. SameValue size (record { n = n; d = weight_of best })) c.area.ensures.value (subst (λ d. SameValue size (record { n = pos c.area.result; d = d })) c.weight.ensures.value c.new.ensures.value) in
    let bounds_s = subst (λ (cone : fans.HalfCone). AreBounds points cone.direction cone.high cone.low s) is_cone (record { is = c.span.ensures.bounds; short = c.span.ensures.short }) in
    let bounds_t = subst (λ (cone : fans.HalfCone). AreBounds points cone.direction cone.high cone.low t) is_far (record { is = c.span-2.ensures.bounds; short = c.span-2.ensures.short }) in
    let passes = best_passes points fan best c.args.all.chords size s t c.args.cloud.limited c.requires.fan c.requires.wide c.requires.chords.count c.requires.chords.best c.requires.chords.served c.new.ensures.lowest same bounds_s bounds_t in
    subst (λ (cone : fans.HalfCone). PassesParallelogram points (record { size = size; first = cone.direction; first_bounds = s; second = vector_of c.cone_at-far.result.dir; second_bounds = t; fan = fan; chords = chords })) (sym is_cone)
    (subst (λ (cone : fans.HalfCone). PassesParallelogram points (record { size = size; first = (cone_at fan best.direction).direction; first_bounds = s; second = cone.direction; second_bounds = t; fan = fan; chords = chords })) (sym is_far) passes)

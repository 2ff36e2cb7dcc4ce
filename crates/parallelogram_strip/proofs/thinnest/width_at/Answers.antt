use Rattle.std.proofs.Common.{◌+◌, ◌≡◌, refl, sym, ◌∙◌, ap, subst, ◌<◌, ℕ, ℤ, pos, ◌≤ℤ◌, ◌<ℤ◌, length, arith}
use Rattle.std.proofs.lemmas.Int.{ints}
use Rattle.bounds_model.specs.Plane.{dot, squared_length}
use Rattle.bounds_model.specs.Fans as fans
use Rattle.bounded_coords.specs.Clouds.{points_of}
use Rattle.answers.specs.Answers.{vector_of, half_fan_of}
use Rattle.parallelogram_strip.specs.FullTurn.{cone_at}
use Rattle.parallelogram_strip.specs.Crossings.{reach_of}
use Rattle.parallelogram_strip.proofs.Crossings.{ahead_at_start}
use Rattle.directions.proofs.Reaches.{not_behind, reach_within, lowest_long}
use Rattle.directions.proofs.Reading.{reach_is}
use Rattle.parallelogram_strip.proofs.ConesRead.{around_first, around_named, around_short, cones_length, turn_of}
use Rattle.parallelogram_strip.proofs.thinnest.width_at.Goals as goal

pub at-requires : goal.at-requires
at-requires c =
    let listed : c.args.j < length c.args.fan.now.cones + length c.args.fan.now.cones = omega (arith, c.requires.listed) in
    (around_named (points_of c.args.cloud) c.args.fan.now c.args.j c.at-cone.result c.requires.fan listed (around_first c.args.fan.now c.args.j c.at-cone.result c.at-cone.ensures)).1

pub at-requires-2 : goal.at-requires-2
at-requires-2 c =
    let listed : c.args.j < length c.args.fan.now.cones + length c.args.fan.now.cones = omega (arith, c.requires.listed) in
    (around_named (points_of c.args.cloud) c.args.fan.now c.args.j c.at-cone.result c.requires.fan listed (around_first c.args.fan.now c.args.j c.at-cone.result c.at-cone.ensures)).0

pub beyond-requires : goal.beyond-requires
beyond-requires c =
    let points = points_of c.args.cloud in
    let cone = c.at-cone.result in
    let is_cone = around_first c.args.fan.now c.args.j cone c.at-cone.ensures in
    record {
      direction = around_short c.args.fan.now c.args.j cone c.requires.fan.short c.at-cone.ensures;
      order = not_behind points (vector_of cone.dir) cone.lo cone.hi c.at.result.now c.at-2.result.now c.at.ensures c.at-2.ensures
          (subst (λ (x : fans.HalfCone). pos 0 ≤ℤ reach_of points x.direction x) (sym is_cone) (ahead_at_start (turn_of points c.args.fan.now c.requires.fan) c.args.j c.requires.listed));
    }

pub squared_length-requires : goal.squared_length-requires
squared_length-requires c = around_short c.args.fan.now c.args.j c.at-cone.result c.requires.fan.short c.at-cone.ensures

-- a number that is above 0 as a whole number
above : {n : ℕ} {z : ℤ} → pos n ≡ z → pos 0 <ℤ z → 0 < n
above e h = omega (arith, ints)

pub returns-clause-width : goal.returns-clause-width
returns-clause-width c =
    let points = points_of c.args.cloud in
    let cone = c.at-cone.result in
    let is_cone = around_first c.args.fan.now c.args.j cone c.at-cone.ensures in
    let turn = turn_of points c.args.fan.now c.requires.fan in
    let is_reach = reach_is points (vector_of cone.dir) cone.hi cone.lo c.at-2.result.now c.at.result.now (dot (vector_of cone.dir) c.at-2.result.now) (dot (vector_of cone.dir) c.at.result.now) c.at-2.ensures c.at.ensures refl refl in
    let is_length = c.squared_length.ensures.value ∙ ap (λ (x : fans.HalfCone). squared_length x.direction) is_cone in
    record {
      listed = omega (arith, c.requires.listed, cones_length c.args.fan.now);
      is_reach = c.beyond.ensures.value ∙ is_reach ∙ ap (λ (x : fans.HalfCone). reach_of points x.direction x) is_cone;
      is_length = is_length;
      some = above is_length (lowest_long (cone_at (half_fan_of c.args.fan.now) c.args.j).direction (turn.lowest c.args.j (omega (arith, c.requires.listed))));
      reach_limit = reach_within c.beyond.ensures.value c.beyond.ensures.q_size c.beyond.ensures.p_size;
      length_limit = c.squared_length.ensures.limit;
    }

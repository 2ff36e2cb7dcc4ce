use Rattle.std.proofs.Common.{◌≡◌, refl, sym, ◌∙◌, ap, subst, ◌+◌, ◌<◌, ◌≤◌, ℕ, ℤ, pos, ◌-ℤ◌, ◌≤ℤ◌, length, [], ◌∷◌, arith}
use Rattle.std.proofs.lemmas.Int.{ints}
use Rattle.integers.specs.Size.{Size}
use Rattle.bounds_model.specs.Plane.{dot}
use Rattle.bounds_model.specs.Fractions.{HaveNoCommonFactor}
use Rattle.bounds_model.specs.Fans as fans
use Rattle.bounded_coords.specs.Clouds.{points_of}
use Rattle.answers.specs.Answers.{vector_of, half_cone_of, half_fan_of, chord_of}
use Rattle.parallelogram_strip.specs.FullTurn.{cone_at}
use Rattle.parallelogram_strip.specs.Crossings.{reach_of, IsChord, Joins}
use Rattle.parallelogram_strip.proofs.Crossings.{ahead_at_start}
use Rattle.directions.proofs.Reaches.{not_behind}
use Rattle.directions.proofs.Reading.{reach_is}
use Rattle.parallelogram_strip.proofs.ConesRead.{around_first, around_named, around_short, cones_length, turn_of}
use Rattle.parallelogram_strip.proofs.crossing.crossing_at.Goals as goal

pub beyond-requires-clause-direction : goal.beyond-requires-clause-direction
beyond-requires-clause-direction c = around_short c.args.fan.now c.args.j c.at-cone.result c.requires.fan.short c.at-cone.ensures

pub beyond-requires-clause-order : goal.beyond-requires-clause-order
beyond-requires-clause-order c =
    let points = points_of c.args.cloud in
    let cone = c.at-cone.result in
    let is_cone = around_first c.args.fan.now c.args.j cone c.at-cone.ensures in
    not_behind points (vector_of cone.dir) cone.lo cone.hi c.at.result.now c.at-2.result.now c.at.ensures c.at-2.ensures
    (subst (λ (x : fans.HalfCone). pos 0 ≤ℤ reach_of points x.direction x) (sym is_cone) (ahead_at_start (turn_of points c.args.fan.now c.requires.fan) c.args.j c.requires.listed))

pub chord_between-requires : goal.chord_between-requires
chord_between-requires c =
    let points = points_of c.args.cloud in
    let fan = half_fan_of c.args.fan.now in
    let is_cone = around_first c.args.fan.now c.args.j c.at-cone.result c.at-cone.ensures in
    let near = c.near-near.ensures in
    let many = cones_length c.args.fan.now in
    let turn = turn_of points c.args.fan.now c.requires.fan in
    let listed : c.near-near.result < length c.args.fan.now.cones + length c.args.fan.now.cones = omega (arith, near.before, many) in
    let next : c.near-near.result + 1 < length c.args.fan.now.cones + length c.args.fan.now.cones = omega (arith, near.before, many, c.requires.listed) in
    record {
      direction = around_short c.args.fan.now c.args.j c.at-cone.result c.requires.fan.short c.at-cone.ensures;
      lowest = subst (λ (x : fans.HalfCone). HaveNoCommonFactor (x.direction.x ∷ x.direction.y ∷ [])) (sym is_cone) (turn.lowest c.args.j (omega (arith, c.requires.listed)));
      near = around_named points c.args.fan.now c.near-near.result c.cone_at.result c.requires.fan listed c.cone_at.ensures;
      far = around_named points c.args.fan.now (c.near-near.result + 1) c.cone_at-2.result c.requires.fan next c.cone_at-2.ensures;
      ahead = subst (λ (x : fans.HalfCone). pos 0 ≤ℤ reach_of points x.direction (half_cone_of c.cone_at.result)) (sym is_cone) (subst (λ (y : fans.HalfCone). pos 0 ≤ℤ reach_of points (cone_at fan c.args.j).direction y) (sym c.cone_at.ensures) near.ahead);
      behind = subst (λ (x : fans.HalfCone). reach_of points x.direction (half_cone_of c.cone_at-2.result) ≤ℤ pos 0) (sym is_cone) (subst (λ (y : fans.HalfCone). reach_of points (cone_at fan c.args.j).direction y ≤ℤ pos 0) (sym c.cone_at-2.ensures) near.behind);
    }

-- a difference of bounded numbers is bounded
difference_within : (n : ℕ) (x y : ℤ) → pos n ≡ x -ℤ y → Size 160000000000 x → Size 160000000000 y → n ≤ 320000000000
difference_within n x y e sx sy = let lx = sx.abs in let ly = sy.abs in omega (arith, ints)

pub returns-clause-crossing : goal.returns-clause-crossing
returns-clause-crossing c =
    let points = points_of c.args.cloud in
    let fan = half_fan_of c.args.fan.now in
    let cone = c.at-cone.result in
    let is_cone = around_first c.args.fan.now c.args.j cone c.at-cone.ensures in
    let is_reach = reach_is points (vector_of cone.dir) cone.hi cone.lo c.at-2.result.now c.at.result.now (dot (vector_of cone.dir) c.at-2.result.now) (dot (vector_of cone.dir) c.at.result.now) c.at-2.ensures c.at.ensures refl refl in
    record {
      listed = omega (arith, c.requires.listed, cones_length c.args.fan.now);
      near = c.near-near.ensures;
      width = c.beyond.ensures.value ∙ is_reach ∙ ap (λ (x : fans.HalfCone). reach_of points x.direction x) is_cone;
      limited = difference_within c.beyond.result _ _ c.beyond.ensures.value c.beyond.ensures.q_size c.beyond.ensures.p_size;
      chord = subst (λ (x : fans.HalfCone). IsChord points x.direction (chord_of c.chord_between.result)) is_cone c.chord_between.ensures.chord;
      joins = subst (λ x. Joins x (cone_at fan (c.near-near.result + 1)) (chord_of c.chord_between.result)) c.cone_at.ensures (subst (λ y. Joins (half_cone_of c.cone_at.result) y (chord_of c.chord_between.result)) c.cone_at-2.ensures c.chord_between.ensures.joins);
    }

use Rattle.std.proofs.Common.{◌≡◌, sym, ◌∙◌, ap, ◌+◌, ◌<◌, ℤ, pos, ◌≤ℤ◌, ◌<ℤ◌, length, below_more, FitsSigned, to_z, of_z, to_z-of_z, w64, arith}
use Rattle.std.proofs.lemmas.Int.{ints, by_lt_z}
use Rattle.integers.proofs.Sizes.{size_fits_in}
use Rattle.bounds_model.specs.Fans as fans
use Rattle.bounded_coords.specs.Clouds.{points_of}
use Rattle.answers.specs.Answers.{half_fan_of}
use Rattle.parallelogram_strip.specs.FullTurn.{cone_at}
use Rattle.parallelogram_strip.specs.Crossings.{reach_of}
use Rattle.parallelogram_strip.proofs.Crossings.{ahead_at_start}
use Rattle.parallelogram_strip.proofs.ConesRead.{around_first, around_named, around_short, cones_length, turn_of}
use Rattle.parallelogram_strip.proofs.flat.flat_direction.Goals as goal

pub reach-requires : goal.reach-requires
reach-requires c =
    let listed : c.loop-j.j < length c.args.fan.now.cones + length c.args.fan.now.cones = omega arith in
    let named = around_named (points_of c.args.cloud) c.args.fan.now c.loop-j.j c.at-cone.result c.requires listed (around_first c.args.fan.now c.loop-j.j c.at-cone.result c.at-cone.ensures) in
    record {
      direction = around_short c.args.fan.now c.loop-j.j c.at-cone.result c.requires.short c.at-cone.ensures;
      hi = named.0;
      lo = named.1;
    }

-- what is not below 0 and not 0 is above 0
positive : {z : ℤ} → pos 0 ≤ℤ z → (z ≡ pos 0 → ⊥) → pos 0 <ℤ z
positive {z} h n = by_lt_z (pos 0) z (λ above. above) (λ below. absurd (n (omega (arith, ints))))

pub loop-j-preserved : goal.loop-j-preserved
loop-j-preserved c =
    let points = points_of c.args.cloud in
    let fan = half_fan_of c.args.fan.now in
    let listed : c.loop-j.j < length c.args.fan.now.cones = omega arith in
    let is_cone = around_first c.args.fan.now c.loop-j.j c.at-cone.result c.at-cone.ensures in
    let is : c.reach.result ≡ reach_of points (cone_at fan c.loop-j.j).direction (cone_at fan c.loop-j.j) = c.reach.ensures.value ∙ ap (λ (cone : fans.HalfCone). reach_of points cone.direction cone) is_cone in
    let nonzero = λ (e : reach_of points (cone_at fan c.loop-j.j).direction (cone_at fan c.loop-j.j) ≡ pos 0). c.if-reach-eq0.false (ap (of_z w64) (is ∙ e)) in
    below_more _ _ c.loop-j.invariant (positive (ahead_at_start (turn_of points c.args.fan.now c.requires) c.loop-j.j listed) nonzero)

pub returns-then-reach-eq0 : goal.returns-then-reach-eq0
returns-then-reach-eq0 c =
    let points = points_of c.args.cloud in
    let fan = half_fan_of c.args.fan.now in
    let is_cone = around_first c.args.fan.now c.loop-j.j c.at-cone.result c.at-cone.ensures in
    let fits : FitsSigned w64 c.reach.result = size_fits_in w64 c.reach.ensures.size tt in
    record {
      listed = omega (arith, cones_length c.args.fan.now);
      flat = sym (c.reach.ensures.value ∙ ap (λ (cone : fans.HalfCone). reach_of points cone.direction cone) is_cone) ∙ sym (to_z-of_z fits) ∙ ap (to_z w64) c.if-reach-eq0.true;
    }

pub returns : goal.returns
returns c = λ k l. c.loop-j.invariant k (omega (arith, cones_length c.args.fan.now))

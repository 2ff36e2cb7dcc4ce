use Rattle.std.proofs.Common.{◌≡◌, ◌+◌, ◌-◌, ◌≤◌, subst, ap, Bool, false, ℤ, pos, ◌≤ℤ◌, ◌<ℤ◌, IsTrue, length, arith}
use Rattle.std.proofs.lemmas.Int.{by_lt_z}
use Rattle.integers.proofs.Order.{le_from_lt}
use Rattle.bounds_model.specs.Fans as fans
use Rattle.bounded_coords.specs.Clouds.{points_of}
use Rattle.answers.specs.Answers.{half_fan_of}
use Rattle.parallelogram_strip.specs.FullTurn.{cone_at}
use Rattle.parallelogram_strip.specs.Crossings.{reach_of}
use Rattle.parallelogram_strip.proofs.Crossings.{behind_at_end}
use Rattle.parallelogram_strip.proofs.ConesRead.{around_first, around_short, cones_length, turn_of}
use Rattle.parallelogram_strip.proofs.crossing.near.Goals as goal

pub is_behind-requires-clause-direction : goal.is_behind-requires-clause-direction
is_behind-requires-clause-direction c = around_short c.args.fan.now c.args.j c.at.result c.requires.fan.short c.at.ensures

-- what is not found behind lies ahead
not_behind : {b : Bool} {z : ℤ} → (z ≤ℤ pos 0 → IsTrue b) → b ≡ false → pos 0 ≤ℤ z
not_behind {b} {z} h e = by_lt_z (pos 0) z (λ above. le_from_lt above) (λ below. absurd (never (subst IsTrue e (h below))))
  where
    never : IsTrue false → ⊥
    never t = absurd (cc)

pub loop-i-preserved : goal.loop-i-preserved
loop-i-preserved c =
    let points = points_of c.args.cloud in
    let fan = half_fan_of c.args.fan.now in
    let is_d = ap (λ (cone : fans.HalfCone). cone.direction) (around_first c.args.fan.now c.args.j c.at.result c.at.ensures) in
    subst (λ d. pos 0 ≤ℤ reach_of points d (cone_at fan (c.loop-i.i + 1))) is_d (not_behind c.is_behind.ensures.1 c.if-is_behind.false)

pub returns-then-is_behind : goal.returns-then-is_behind
returns-then-is_behind c =
    let points = points_of c.args.cloud in
    let fan = half_fan_of c.args.fan.now in
    let is_d = ap (λ (cone : fans.HalfCone). cone.direction) (around_first c.args.fan.now c.args.j c.at.result c.at.ensures) in
    record {
      after = omega arith;
      before = omega (arith, cones_length c.args.fan.now);
      ahead = c.loop-i.invariant;
      behind = subst (λ d. reach_of points d (cone_at fan (c.loop-i.i + 1)) ≤ℤ pos 0) is_d (c.is_behind.ensures.0 c.if-is_behind.true);
    }

pub returns : goal.returns
returns c =
    let points = points_of c.args.cloud in
    let fan = half_fan_of c.args.fan.now in
    let count = c.len.ensures.count in
    let last = c.args.j + (c.len.result - 1) in
    let within : c.args.from ≤ last = omega (arith, c.requires.before, count) in
    let is_last : c.loop-i.i ≡ last = omega (arith, c.loop-i.auto.i-end within, c.loop-i-test.false) in
    let next : c.args.j + length c.args.fan.now.cones ≡ last + 1 = omega (arith, c.requires.listed, count) in
    record {
      after = omega arith;
      before = omega (arith, c.requires.listed, count, cones_length c.args.fan.now);
      ahead = subst (λ i. pos 0 ≤ℤ reach_of points (cone_at fan c.args.j).direction (cone_at fan i)) is_last c.loop-i.invariant;
      behind = subst (λ i. reach_of points (cone_at fan c.args.j).direction (cone_at fan i) ≤ℤ pos 0) next (behind_at_end (turn_of points c.args.fan.now c.requires.fan) c.args.j c.requires.listed);
    }

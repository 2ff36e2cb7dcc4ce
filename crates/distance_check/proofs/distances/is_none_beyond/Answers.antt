use Rattle.std.proofs.Common.{◌≡◌, refl, subst, pos, ◌≤ℤ◌, arith}
use Rattle.std.specs.Prelude.{All, take}
use Rattle.std.proofs.lemmas.List.{take_all}
use Rattle.bounds_model.specs.Space.{dot, vector}
use Rattle.bounded_coords.specs.Clouds.{points_of}
use Rattle.pair_sums.specs.Sums.{pull_of}
use Rattle.integers.proofs.Lists.{at_point, first_more, clash}
use Rattle.distance_check.proofs.PairLimits.{below_clash, not_below}
use Rattle.distance_check.proofs.distances.is_none_beyond.Goals as goal

pub returns-then-is_against : goal.returns-then-is_against
returns-then-is_against c = (
  λ no. absurd (cc no),
  λ all. absurd (below_clash (c.is_against.ensures.0 c.if-is_against.true) (at_point (λ p. pos 0 ≤ℤ dot (pull_of c.args.totals.now) (vector p c.args.second.now)) (points_of c.args.cloud) c.loop-i.i c.at.result.now c.at.ensures all)),
)

pub loop-i-preserved : goal.loop-i-preserved
loop-i-preserved c =
    first_more (λ p. pos 0 ≤ℤ dot (pull_of c.args.totals.now) (vector p c.args.second.now)) (points_of c.args.cloud) c.loop-i.i c.at.result.now c.at.ensures c.loop-i.invariant
    (not_below (λ below. clash (c.is_against.ensures.1 below) c.if-is_against.false))

pub returns : goal.returns
returns c =
    let points = points_of c.args.cloud in
    let whole : take c.loop-i.i points ≡ points = take_all c.loop-i.i points (omega arith) in
    (λ yes. subst (All (λ p. pos 0 ≤ℤ dot (pull_of c.args.totals.now) (vector p c.args.second.now))) whole c.loop-i.invariant, λ all. refl)

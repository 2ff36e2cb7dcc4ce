use Rattle.std.proofs.Common.{refl, sym, subst, ◌<◌, ℕ, length, arith}
use Rattle.std.specs.Prelude.{All, map}
use Rattle.integers.proofs.Lists.{clash, first_more}
use Rattle.bounds_model.specs.Fans.{HalfCone}
use Rattle.bounded_coords.specs.Clouds.{points_of}
use Rattle.answers.specs.Answers.{half_cone_of}
use Rattle.directions.proofs.FanLists.{seen_at, all_seen}
use Rattle.fan_test.proofs.limits.names_points.Goals as goal

-- the cone's numbers are below a bound
abbrev Names : ℕ → HalfCone → Type 0
Names n m = (m.high < n) × (m.low < n)

pub returns-then-not-names_two : goal.returns-then-not-names_two
returns-then-not-names_two c = (
  λ yes. absurd (clash yes refl),
  λ all. absurd (clash (c.names_two.ensures.1 (subst (λ n. Names n (half_cone_of c.at.result)) (sym c.len-count.ensures.count) (seen_at (Names (length (points_of c.args.cloud))) half_cone_of c.args.fan.now.cones c.loop-i.i c.at.result c.at.ensures all))) c.if-not-names_two.true),
)

pub loop-i-preserved : goal.loop-i-preserved
loop-i-preserved c =
    first_more (λ cone. Names c.len-count.result (half_cone_of cone)) c.args.fan.now.cones c.loop-i.i c.at.result c.at.ensures c.loop-i.invariant (c.names_two.ensures.0 c.if-not-names_two.false)

pub returns : goal.returns
returns c = (
  λ yes. subst (λ n. All (Names n) (map half_cone_of c.args.fan.now.cones)) c.len-count.ensures.count (all_seen (Names c.len-count.result) half_cone_of c.args.fan.now.cones c.loop-i.i (omega arith) c.loop-i.invariant),
  λ all. refl,
)

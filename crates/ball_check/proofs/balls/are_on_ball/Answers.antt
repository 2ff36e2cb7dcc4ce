use Rattle.std.proofs.Common.{◌≡◌, refl, subst, map, get_or}
use Rattle.std.specs.Prelude.{All, take}
use Rattle.std.proofs.lemmas.List.{take_all}
use Rattle.std.proofs.lemmas.List.Elements.{All-map, All-more}
use Rattle.bounds_model.specs.BallAnswer.{IsOnBall}
use Rattle.bounded_coords.specs.Clouds.{points_of}
use Rattle.answers.specs.Answers.{weighted_of}
use Rattle.answers.specs.declared.balls.Weighted.{Weighted}
use Rattle.integers.proofs.Lists.{All-unmap, clash}
use Rattle.ball_check.proofs.Supports.{some_supports, names_point, first_placed, on_ball_by}
use Rattle.ball_check.proofs.balls.are_on_ball.Goals as goal
use Rattle.kernel_laws.proofs.Points.{point_at_place}

pub at-first-requires : goal.at-first-requires
at-first-requires g c = names_point c.args.supports.now 0 (record { point = 0; weight = 0 }) c.requires.limits.numbers (some_supports c.args.supports.now c.requires.limits.some)

pub at-requires : goal.at-requires
at-requires g c = names_point c.args.supports.now c.loop-s.s-index (record { point = 0; weight = 0 }) c.requires.limits.numbers c.loop-s-test.true

pub returns-then-not-is_on : goal.returns-then-not-is_on
returns-then-not-is_on g c =
    let place = g.K.Kernel.place in
    let points = points_of c.args.cloud in
    let supports = c.args.supports.now in
    let s : Weighted = get_or supports c.loop-s.s-index (record { point = 0; weight = 0 }) in
    let first = first_placed place points supports (record { point = 0; weight = 0 }) c.at-first.result.now (some_supports supports c.requires.limits.some) c.at-first.ensures in
    let on = on_ball_by (map place points) (map weighted_of supports) c.args.totals.now (place c.at-first.result.now) (place c.at.result.now) (weighted_of s) c.requires.totals first (point_at_place place points s.point c.at.result.now c.at.ensures) c.is_on.ensures in (
      λ no. absurd (cc no),
      λ all. absurd (clash (on.1 (All-unmap (IsOnBall (map place points) (map weighted_of supports)) weighted_of supports all c.loop-s.s-index (record { point = 0; weight = 0 }) c.loop-s-test.true)) c.if-not-is_on.true),
    )

pub loop-s-preserved : goal.loop-s-preserved
loop-s-preserved g c =
    let place = g.K.Kernel.place in
    let points = points_of c.args.cloud in
    let supports = c.args.supports.now in
    let s : Weighted = get_or supports c.loop-s.s-index (record { point = 0; weight = 0 }) in
    let first = first_placed place points supports (record { point = 0; weight = 0 }) c.at-first.result.now (some_supports supports c.requires.limits.some) c.at-first.ensures in
    let on = on_ball_by (map place points) (map weighted_of supports) c.args.totals.now (place c.at-first.result.now) (place c.at.result.now) (weighted_of s) c.requires.totals first (point_at_place place points s.point c.at.result.now c.at.ensures) c.is_on.ensures in
    All-more (λ s. IsOnBall (map place points) (map weighted_of supports) (weighted_of s)) supports c.loop-s.s-index (record { point = 0; weight = 0 }) c.loop-s-test.true c.loop-s.invariant (on.0 c.if-not-is_on.false)

pub returns : goal.returns
returns g c =
    let place = g.K.Kernel.place in
    let points = points_of c.args.cloud in
    let supports = c.args.supports.now in
    let whole : take c.loop-s.s-index supports ≡ supports = take_all c.loop-s.s-index supports c.loop-s-test.false in (
      λ yes. All-map (IsOnBall (map place points) (map weighted_of supports)) weighted_of supports (subst (All (λ s. IsOnBall (map place points) (map weighted_of supports) (weighted_of s))) whole c.loop-s.invariant),
      λ all. refl,
    )

use Rattle.std.proofs.Common.{◌≡◌, refl, subst, map, arith}
use Rattle.std.specs.Prelude.{All, take}
use Rattle.std.proofs.lemmas.List.{take_all}
use Rattle.std.proofs.lemmas.List.Elements.{All-map}
use Rattle.bounds_model.specs.BallAnswer.{IsNotOutside}
use Rattle.bounded_coords.specs.Clouds.{points_of}
use Rattle.answers.specs.Answers.{weighted_of}
use Rattle.integers.proofs.Lists.{All-unmap, at_point, first_more, clash}
use Rattle.ball_check.proofs.Supports.{some_supports, names_point, first_placed, outside_by}
use Rattle.ball_check.proofs.balls.is_none_outside.Goals as goal

pub at-first-requires : goal.at-first-requires
at-first-requires g c = names_point c.args.supports.now 0 (record { point = 0; weight = 0 }) c.requires.limits.numbers (some_supports c.args.supports.now c.requires.limits.some)

pub returns-then-is_outside : goal.returns-then-is_outside
returns-then-is_outside g c =
    let place = g.K.Kernel.place in
    let points = points_of c.args.cloud in
    let supports = c.args.supports.now in
    let first = first_placed place points supports (record { point = 0; weight = 0 }) c.at-first.result.now (some_supports supports c.requires.limits.some) c.at-first.ensures in
    let outside = outside_by (map place points) (map weighted_of supports) c.args.totals.now (place c.at-first.result.now) (place c.at.result.now) c.requires.totals first c.is_outside.ensures in (
      λ no. absurd (cc no),
      λ all. absurd (outside.0 c.if-is_outside.true (at_point (λ p. IsNotOutside (map place points) (map weighted_of supports) (place p)) points c.loop-i.i c.at.result.now c.at.ensures (All-unmap (IsNotOutside (map place points) (map weighted_of supports)) place points all))),
    )

pub loop-i-preserved : goal.loop-i-preserved
loop-i-preserved g c =
    let place = g.K.Kernel.place in
    let points = points_of c.args.cloud in
    let supports = c.args.supports.now in
    let first = first_placed place points supports (record { point = 0; weight = 0 }) c.at-first.result.now (some_supports supports c.requires.limits.some) c.at-first.ensures in
    let outside = outside_by (map place points) (map weighted_of supports) c.args.totals.now (place c.at-first.result.now) (place c.at.result.now) c.requires.totals first c.is_outside.ensures in
    first_more (λ p. IsNotOutside (map place points) (map weighted_of supports) (place p)) points c.loop-i.i c.at.result.now c.at.ensures c.loop-i.invariant (outside.1 (λ yes. clash yes c.if-is_outside.false))

pub returns : goal.returns
returns g c =
    let place = g.K.Kernel.place in
    let points = points_of c.args.cloud in
    let supports = c.args.supports.now in
    let whole : take c.loop-i.i points ≡ points = take_all c.loop-i.i points (omega arith) in (
      λ yes. All-map (IsNotOutside (map place points) (map weighted_of supports)) place points (subst (All (λ p. IsNotOutside (map place points) (map weighted_of supports) (place p))) whole c.loop-i.invariant),
      λ all. refl,
    )

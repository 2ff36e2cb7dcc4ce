use Rattle.std.proofs.Common.{◌≡◌, refl, sym, subst, ap₂, get_or}
use Rattle.std.specs.Prelude.{All, take}
use Rattle.std.proofs.lemmas.List.{take_all}
use Rattle.std.proofs.lemmas.List.Elements.{All-more}
use Rattle.bounds_model.specs.Space.{dot, vector}
use Rattle.bounds_model.specs.DistanceAnswer.{difference}
use Rattle.bounded_coords.specs.Clouds.{points_of}
use Rattle.answers.specs.Answers.{pair_of}
use Rattle.answers.specs.declared.pairs.WeightedPair.{WeightedPair}
use Rattle.pair_sums.specs.Sums.{pull_of}
use Rattle.integers.proofs.Lists.{clash}
use Rattle.distance_check.proofs.PairLimits.{no_pair, names_points, at_number}
use Rattle.distance_check.proofs.distances.are_level.Goals as goal

pub at-requires : goal.at-requires
at-requires c = (names_points c.args.pairs.now c.loop-pair.pair-index c.requires.limits.numbers c.loop-pair-test.true).0

pub at-requires-in-loop-pair : goal.at-requires-in-loop-pair
at-requires-in-loop-pair c = (names_points c.args.pairs.now c.loop-pair.pair-index c.requires.limits.numbers c.loop-pair-test.true).1

pub returns-then-not-is_level : goal.returns-then-not-is_level
returns-then-not-is_level c =
    let ps = points_of c.args.p in
    let qs = points_of c.args.q in
    let pair : WeightedPair = get_or c.args.pairs.now c.loop-pair.pair-index no_pair in
    let same = ap₂ vector (at_number qs pair.second c.at-in-loop-pair.result.now c.at-in-loop-pair.ensures) (at_number ps pair.first c.at.result.now c.at.ensures) in (
      λ no. absurd (cc no),
      λ all. absurd (clash (c.is_level.ensures.1 (subst (λ v. dot (pull_of c.args.totals.now) v ≡ dot (pull_of c.args.totals.now) (vector c.args.second.now c.args.first.now)) same (all c.loop-pair.pair-index no_pair c.loop-pair-test.true))) c.if-not-is_level.true),
    )

pub loop-pair-preserved : goal.loop-pair-preserved
loop-pair-preserved c =
    let ps = points_of c.args.p in
    let qs = points_of c.args.q in
    let v = pull_of c.args.totals.now in
    let least = dot v (vector c.args.second.now c.args.first.now) in
    let pair : WeightedPair = get_or c.args.pairs.now c.loop-pair.pair-index no_pair in
    let same = ap₂ vector (at_number qs pair.second c.at-in-loop-pair.result.now c.at-in-loop-pair.ensures) (at_number ps pair.first c.at.result.now c.at.ensures) in
    All-more (λ pair. dot v (difference ps qs (pair_of pair)) ≡ least) c.args.pairs.now c.loop-pair.pair-index no_pair c.loop-pair-test.true c.loop-pair.invariant
    (subst (λ u. dot v u ≡ least) (sym same) (c.is_level.ensures.0 c.if-not-is_level.false))

pub returns : goal.returns
returns c =
    let v = pull_of c.args.totals.now in
    let whole : take c.loop-pair.pair-index c.args.pairs.now ≡ c.args.pairs.now = take_all c.loop-pair.pair-index c.args.pairs.now c.loop-pair-test.false in (
      λ yes. subst (All (λ pair. dot v (difference (points_of c.args.p) (points_of c.args.q) (pair_of pair)) ≡ dot v (vector c.args.second.now c.args.first.now))) whole c.loop-pair.invariant,
      λ all. refl,
    )

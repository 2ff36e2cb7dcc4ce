use Rattle.std.proofs.Common.{refl, sym, ◌∙◌, subst, get_or, ℕ, ◌<◌, ◌≤◌, map, arith}
use Rattle.std.proofs.lemmas.Int.{ints}
use Rattle.std.proofs.lemmas.List.{take_all}
use Rattle.bounded_coords.specs.Clouds.{points_of}
use Rattle.answers.specs.Answers.{pair_of}
use Rattle.answers.specs.declared.pairs.WeightedPair.{WeightedPair}
use Rattle.kernel_laws.proofs.Points.{point_at_place}
use Rattle.ring_check.specs.Rings.{ArePairSums}
use Rattle.ring_check.proofs.RingPairs.{sums_more, more_room}
use Rattle.ring_check.proofs.pairs.PairSums.over.Goals as goal

pub loop-pair-init : goal.loop-pair-init
loop-pair-init g c = record {
  sums = record { weight = refl; x = refl; y = refl; z = refl; squared_length = refl };
  size = record {
    weight = omega arith;
    x = record { abs = omega (arith, ints) };
    y = record { abs = omega (arith, ints) };
    z = record { abs = omega (arith, ints) };
    squared_length = record { abs = omega (arith, ints) };
  };
}

pub at-requires : goal.at-requires
at-requires g c = (c.requires.small c.loop-pair.pair-index (record { first = 0; second = 0; weight = 0 }) c.loop-pair-test.true).0

pub at-requires-in-loop-pair : goal.at-requires-in-loop-pair
at-requires-in-loop-pair g c = (c.requires.small c.loop-pair.pair-index (record { first = 0; second = 0; weight = 0 }) c.loop-pair-test.true).1

pub with-sums-requires-clause-size : goal.with-sums-requires-clause-size
with-sums-requires-clause-size g c = more_room (below c.loop-pair-test.true c.requires.few) c.loop-pair.invariant.size
  where
    below : {i n : ℕ} → i < n → n ≤ 4 → i ≤ 3
    below h k = omega arith

pub with-sums-requires-clause-weight : goal.with-sums-requires-clause-weight
with-sums-requires-clause-weight g c = (c.requires.small c.loop-pair.pair-index (record { first = 0; second = 0; weight = 0 }) c.loop-pair-test.true).3

pub loop-pair-preserved : goal.loop-pair-preserved
loop-pair-preserved g c =
    let points = points_of c.args.cloud in
    let none : WeightedPair = record { first = 0; second = 0; weight = 0 } in
    let pair : WeightedPair = get_or c.args.pairs.now c.loop-pair.pair-index none in
    record {
      sums = sums_more (map g.P.Place.place (points_of c.args.cloud)) c.args.pairs.now c.loop-pair.pair-index none _ _ c.loop-pair.sums c.with-sums.result c.loop-pair-test.true
          (point_at_place g.P.Place.place points pair.first c.at.result.now c.at.ensures ∙ sym c.vector-p.ensures.value)
          (point_at_place g.P.Place.place points pair.second c.at-in-loop-pair.result.now c.at-in-loop-pair.ensures ∙ sym c.vector-q.ensures.value)
          c.loop-pair.invariant.sums c.with-sums.ensures.adds;
      size = c.with-sums.ensures.size c.loop-pair.pair-index c.loop-pair.invariant.size;
    }

pub returns-clause-sums : goal.returns-clause-sums
returns-clause-sums g c =
    subst (λ ps. ArePairSums (map g.P.Place.place (points_of c.args.cloud)) (map pair_of ps) c.loop-pair.sums) (take_all c.loop-pair.pair-index c.args.pairs.now c.loop-pair-test.false) c.loop-pair.invariant.sums

pub returns-clause-size : goal.returns-clause-size
returns-clause-size g c =
    let end = c.loop-pair.auto.pair-index-end in
    let few = c.requires.few in
    more_room (omega arith) c.loop-pair.invariant.size

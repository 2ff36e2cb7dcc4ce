use Rattle.std.specs.Prelude.{map, take}
use Rattle.bounded_coords.specs.Clouds.{points_of}
use Rattle.answers.specs.Answers.{pair_of}
use Rattle.ring_check.specs.Rings.{ArePairSums, AreSmallSums}
use Rattle.ring_check.proofs.pairs.PairSums.over.Given as goal

abbrev pub invariant-loop-pair : goal.invariant-loop-pair
invariant-loop-pair g l = record {
  sums : ArePairSums (map g.P.Place.place (points_of l.cloud)) (map pair_of (take l.pair-index l.pairs)) l.sums;
  size : AreSmallSums l.pair-index l.sums;
}

use Rattle.std.specs.Prelude.{◌≡◌, length, map, take}
use Rattle.pair_weights.specs.CommonFactors.{times}
use Rattle.pair_weights.proofs.lowest_terms.in_lowest_terms.Given as goal

abbrev pub invariant-loop-pair : goal.invariant-loop-pair
invariant-loop-pair g l = record {
  same : map (times l.factor) l.lowest.items ≡ take l.pair-index l.pair-items;
  count : length l.lowest.items ≡ l.pair-index;
}

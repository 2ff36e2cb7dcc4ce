use Rattle.kernel_laws.specs.Vectors.{sum_of}
use Rattle.pair_sums.proofs.SumSizes.{more_within}
use Rattle.pair_sums.proofs.sums.PairSums.with.Goals as goal

pub returns-clause-range : goal.returns-clause-range
returns-clause-range c = record {
  weight = c.requires.limit;
  first = more_within c.args.self.weight c.args.weight 8000 (sum_of c.args.self.first) c.args.p.now (sum_of c.plus.result) c.requires.range.first c.plus.ensures.point c.plus.ensures.sum;
  second = more_within c.args.self.weight c.args.weight 8000 (sum_of c.args.self.second) c.args.q.now (sum_of c.plus-2.result) c.requires.range.second c.plus-2.ensures.point c.plus-2.ensures.sum;
}

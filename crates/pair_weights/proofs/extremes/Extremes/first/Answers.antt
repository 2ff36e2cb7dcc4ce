use Rattle.integers.proofs.Sizes.{wrap_is}
use Rattle.pair_weights.proofs.OneMore.{one_seen}
use Rattle.pair_weights.proofs.extremes.Extremes.first.Goals as goal

pub returns : goal.returns
returns c f is = one_seen f c.args.value _ c.requires is (wrap_is c.requires tt)

use Rattle.std.proofs.Common.{length}
use Rattle.corral.proofs.search.+moments.Given as goal

abbrev pub decreases-moments : goal.decreases-moments
decreases-moments l = length l.weights.now

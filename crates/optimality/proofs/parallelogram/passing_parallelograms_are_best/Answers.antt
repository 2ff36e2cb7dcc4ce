-- A strip that holds a chord is at least as wide as the chord's product with its normal.
use Rattle.optimality.proofs.ParallelogramLaw.{parallelogram_law}
use Rattle.optimality.proofs.parallelogram.passing_parallelograms_are_best.Goals as goal

pub returns : goal.returns
returns c = parallelogram_law

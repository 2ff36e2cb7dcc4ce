use Rattle.std.proofs.Common.{[], ◌∷◌}
use Rattle.integers.proofs.MachineArithmetic.{given, with_inputs, codes, computes}
use Rattle.kernel_laws.proofs.Points.{same_point}
use Rattle.pair_sums.proofs.SumSizes.{within_most}
use Rattle.pair_sums.proofs.sums.PairSums.pull.Goals as goal

pub returns-clause-value : goal.returns-clause-value
returns-clause-value c =
    let first = within_most c.requires.weight c.requires.first in
    let second = within_most c.requires.weight c.requires.second in
    same_point
    (with_inputs (given first.x ∷ given second.x ∷ []) (λ xs h a b. simp (a, b, codes) (computes xs h _ _ tt tt)))
    (with_inputs (given first.y ∷ given second.y ∷ []) (λ xs h a b. simp (a, b, codes) (computes xs h _ _ tt tt)))
    (with_inputs (given first.z ∷ given second.z ∷ []) (λ xs h a b. simp (a, b, codes) (computes xs h _ _ tt tt)))

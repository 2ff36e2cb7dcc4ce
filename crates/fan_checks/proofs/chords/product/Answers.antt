use Rattle.std.proofs.Common.{[], ◌∷◌}
use Rattle.integers.proofs.MachineArithmetic.{given, with_inputs, codes, computes, size_within}
use Rattle.fan_checks.proofs.chords.product.Goals as goal

pub returns-clause-value : goal.returns-clause-value
returns-clause-value c = with_inputs (given c.requires.k ∷ given c.requires.x ∷ []) (λ xs h a b. simp (a, b, codes) (computes xs h _ _ tt tt))

pub returns-clause-size : goal.returns-clause-size
returns-clause-size c = with_inputs (given c.requires.k ∷ given c.requires.x ∷ []) (λ xs h a b. simp (a, b, codes) (size_within xs h _ tt))

use Rattle.std.proofs.Common.{[], ◌∷◌}
use mir.Syntax.{w64}
use Rattle.integers.proofs.MachineArithmetic.{given, with_inputs, codes, computes, fits}
use Rattle.min_annulus.proofs.difference_vectors.DifferenceVector.dot.Goals as goal

pub overflow_add-result : goal.overflow_add-result
overflow_add-result c = with_inputs (given c.requires.from.x ∷ given c.requires.from.y ∷ given c.requires.to.x ∷ given c.requires.to.y ∷ []) (λ xs h p q r s. simp (p, q, r, s, codes) (fits xs h w64 _ tt))

pub returns : goal.returns
returns c = with_inputs (given c.requires.from.x ∷ given c.requires.from.y ∷ given c.requires.to.x ∷ given c.requires.to.y ∷ []) (λ xs h p q r s. simp (p, q, r, s, codes) (computes xs h _ _ tt tt))

use Rattle.std.proofs.Common.{[], ◌∷◌, w64}
use Rattle.integers.proofs.MachineArithmetic.{given, with_inputs, codes, fits, computes, size_within}
use Rattle.directions.proofs.Bounds.{size_in}
use Rattle.directions.proofs.products.cross_directions.Goals as goal

pub overflow_sub-result : goal.overflow_sub-result
overflow_sub-result c = with_inputs (given (size_in c.requires.first.x) ∷ given (size_in c.requires.first.y) ∷ given (size_in c.requires.second.x) ∷ given (size_in c.requires.second.y) ∷ []) (λ xs h p q r s. simp (p, q, r, s, codes) (fits xs h w64 _ tt))

pub returns-clause-value : goal.returns-clause-value
returns-clause-value c = with_inputs (given (size_in c.requires.first.x) ∷ given (size_in c.requires.first.y) ∷ given (size_in c.requires.second.x) ∷ given (size_in c.requires.second.y) ∷ []) (λ xs h p q r s. simp (p, q, r, s, codes) (computes xs h _ _ tt tt))

pub returns-clause-size : goal.returns-clause-size
returns-clause-size c = with_inputs (given (size_in c.requires.first.x) ∷ given (size_in c.requires.first.y) ∷ given (size_in c.requires.second.x) ∷ given (size_in c.requires.second.y) ∷ []) (λ xs h p q r s. simp (p, q, r, s, codes) (size_within xs h _ tt))

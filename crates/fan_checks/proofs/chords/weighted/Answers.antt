use Rattle.std.proofs.Common.{ℤ, List, [], ◌∷◌, ◌^◌, w64}
use Rattle.integers.specs.Size.{Size}
use Rattle.integers.proofs.MachineArithmetic.{Given, given, with_inputs, codes, fits, computes, size_within}
use Rattle.fan_checks.proofs.chords.weighted.Goals as goal

-- the weights and the coordinates, each with its bound
abbrev inputs : {beta gamma a b c : ℤ} → Size (2 ^ 39) beta → Size (2 ^ 39) gamma → Size 200000 a → Size 200000 b → Size 200000 c → List Given
inputs beta gamma a b c = given beta ∷ given gamma ∷ given a ∷ given b ∷ given c ∷ []

pub overflow_mul-result : goal.overflow_mul-result
overflow_mul-result c = with_inputs (given c.requires.beta ∷ given c.requires.a ∷ given c.requires.b ∷ []) (λ xs h e p q. simp (e, p, q, codes) (fits xs h w64 _ tt))

pub overflow_mul-result-2 : goal.overflow_mul-result-2
overflow_mul-result-2 c = with_inputs (given c.requires.gamma ∷ given c.requires.a ∷ given c.requires.c ∷ []) (λ xs h e p q. simp (e, p, q, codes) (fits xs h w64 _ tt))

pub overflow_add-result : goal.overflow_add-result
overflow_add-result c = with_inputs (inputs c.requires.beta c.requires.gamma c.requires.a c.requires.b c.requires.c) (λ xs h e f p q r. simp (e, f, p, q, r, codes) (fits xs h w64 _ tt))

pub returns-clause-value : goal.returns-clause-value
returns-clause-value c = with_inputs (inputs c.requires.beta c.requires.gamma c.requires.a c.requires.b c.requires.c) (λ xs h e f p q r. simp (e, f, p, q, r, codes) (computes xs h _ _ tt tt))

pub returns-clause-size : goal.returns-clause-size
returns-clause-size c = with_inputs (inputs c.requires.beta c.requires.gamma c.requires.a c.requires.b c.requires.c) (λ xs h e f p q r. simp (e, f, p, q, r, codes) (size_within xs h _ tt))

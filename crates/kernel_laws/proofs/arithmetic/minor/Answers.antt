use Rattle.std.proofs.Common.{[], ◌∷◌}
use mir.Syntax.{w128}
use Rattle.integers.proofs.MachineArithmetic.{given, with_inputs, codes, computes, fits}
use Rattle.kernel_laws.proofs.arithmetic.minor.Goals as goal

pub overflow_sub-result : goal.overflow_sub-result
overflow_sub-result c = with_inputs (given c.requires.a ∷ given c.requires.b ∷ given c.requires.c ∷ given c.requires.d ∷ []) (λ xs h v0 v1 v2 v3. simp (v0, v1, v2, v3, codes) (fits xs h w128 _ tt))

pub returns : goal.returns
returns c = with_inputs (given c.requires.a ∷ given c.requires.b ∷ given c.requires.c ∷ given c.requires.d ∷ []) (λ xs h v0 v1 v2 v3. simp (v0, v1, v2, v3, codes) (computes xs h _ _ tt tt))

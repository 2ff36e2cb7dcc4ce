use Rattle.std.proofs.Common.{[], ◌∷◌}
use mir.Syntax.{w128}
use Rattle.integers.proofs.MachineArithmetic.{given, with_inputs, codes, computes, fits}
use Rattle.kernel_laws.proofs.arithmetic.dot.Goals as goal

pub overflow_add-result : goal.overflow_add-result
overflow_add-result c = with_inputs (given c.requires.s.x ∷ given c.requires.s.y ∷ given c.requires.s.z ∷ given c.requires.t.x ∷ given c.requires.t.y ∷ given c.requires.t.z ∷ []) (λ xs h v0 v1 v2 v3 v4 v5. simp (v0, v1, v2, v3, v4, v5, codes) (fits xs h w128 _ tt))

pub overflow_mul-result-3 : goal.overflow_mul-result-3
overflow_mul-result-3 c = with_inputs (given c.requires.s.x ∷ given c.requires.s.y ∷ given c.requires.s.z ∷ given c.requires.t.x ∷ given c.requires.t.y ∷ given c.requires.t.z ∷ []) (λ xs h v0 v1 v2 v3 v4 v5. simp (v0, v1, v2, v3, v4, v5, codes) (fits xs h w128 _ tt))

pub overflow_add-result-2 : goal.overflow_add-result-2
overflow_add-result-2 c = with_inputs (given c.requires.s.x ∷ given c.requires.s.y ∷ given c.requires.s.z ∷ given c.requires.t.x ∷ given c.requires.t.y ∷ given c.requires.t.z ∷ []) (λ xs h v0 v1 v2 v3 v4 v5. simp (v0, v1, v2, v3, v4, v5, codes) (fits xs h w128 _ tt))

pub returns : goal.returns
returns c = with_inputs (given c.requires.s.x ∷ given c.requires.s.y ∷ given c.requires.s.z ∷ given c.requires.t.x ∷ given c.requires.t.y ∷ given c.requires.t.z ∷ []) (λ xs h v0 v1 v2 v3 v4 v5. simp (v0, v1, v2, v3, v4, v5, codes) (computes xs h _ _ tt tt))

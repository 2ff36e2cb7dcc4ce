use Rattle.std.proofs.Common.{[], ◌∷◌}
use Rattle.integers.proofs.MachineArithmetic.{given, with_inputs, codes, computes}
use Rattle.kernel_laws.proofs.Points.{same_point}
use Rattle.kernel_laws.proofs.arithmetic.less.Goals as goal

pub returns-clause-value : goal.returns-clause-value
returns-clause-value c = same_point
    (with_inputs (given c.requires.from.x ∷ given c.requires.from.y ∷ given c.requires.from.z ∷ given c.requires.to.x ∷ given c.requires.to.y ∷ given c.requires.to.z ∷ []) (λ xs h v0 v1 v2 v3 v4 v5. simp (v0, v1, v2, v3, v4, v5, codes) (computes xs h _ _ tt tt)))
    (with_inputs (given c.requires.from.x ∷ given c.requires.from.y ∷ given c.requires.from.z ∷ given c.requires.to.x ∷ given c.requires.to.y ∷ given c.requires.to.z ∷ []) (λ xs h v0 v1 v2 v3 v4 v5. simp (v0, v1, v2, v3, v4, v5, codes) (computes xs h _ _ tt tt)))
    (with_inputs (given c.requires.from.x ∷ given c.requires.from.y ∷ given c.requires.from.z ∷ given c.requires.to.x ∷ given c.requires.to.y ∷ given c.requires.to.z ∷ []) (λ xs h v0 v1 v2 v3 v4 v5. simp (v0, v1, v2, v3, v4, v5, codes) (computes xs h _ _ tt tt)))

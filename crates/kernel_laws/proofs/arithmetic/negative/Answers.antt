use Rattle.std.proofs.Common.{[], ◌∷◌}
use Rattle.integers.proofs.MachineArithmetic.{given, with_inputs, codes, computes, number, number_below}
use Rattle.kernel_laws.proofs.Points.{same_point}
use Rattle.kernel_laws.proofs.arithmetic.negative.Goals as goal

pub returns : goal.returns
returns c =
    same_point
    (with_inputs (given c.requires.x ∷ given c.requires.y ∷ given c.requires.z ∷ []) (λ xs h v0 v1 v2. simp (v0, v1, v2, number xs 0, number_below xs 0, codes) (computes xs h _ _ tt tt)))
    (with_inputs (given c.requires.x ∷ given c.requires.y ∷ given c.requires.z ∷ []) (λ xs h v0 v1 v2. simp (v0, v1, v2, number xs 0, number_below xs 0, codes) (computes xs h _ _ tt tt)))
    (with_inputs (given c.requires.x ∷ given c.requires.y ∷ given c.requires.z ∷ []) (λ xs h v0 v1 v2. simp (v0, v1, v2, number xs 0, number_below xs 0, codes) (computes xs h _ _ tt tt)))

use Rattle.std.proofs.Common.{[], ◌∷◌}
use mir.Syntax.{w128}
use Rattle.integers.proofs.MachineArithmetic.{given, with_inputs, codes, computes, fits}
use Rattle.kernel_laws.proofs.Points.{same_point}
use Rattle.corral.proofs.sums.Moments.with.Goals as goal

pub overflow_add-result : goal.overflow_add-result
overflow_add-result c =
    with_inputs (given c.requires.mass ∷ given c.requires.weight ∷ []) (λ xs h m w. simp (m, w, codes) (fits xs h w128 _ tt))

pub overflow_mul-result : goal.overflow_mul-result
overflow_mul-result c =
    with_inputs (given c.requires.weight ∷ given c.requires.vector.x ∷ []) (λ xs h w v. simp (w, v, codes) (fits xs h w128 _ tt))

pub overflow_add-result-2 : goal.overflow_add-result-2
overflow_add-result-2 c =
    with_inputs (given c.requires.weight ∷ given c.requires.vector.x ∷ given c.requires.sum.x ∷ []) (λ xs h w v s. simp (w, v, s, codes) (fits xs h w128 _ tt))

pub overflow_mul-result-2 : goal.overflow_mul-result-2
overflow_mul-result-2 c =
    with_inputs (given c.requires.weight ∷ given c.requires.vector.y ∷ []) (λ xs h w v. simp (w, v, codes) (fits xs h w128 _ tt))

pub overflow_add-result-3 : goal.overflow_add-result-3
overflow_add-result-3 c =
    with_inputs (given c.requires.weight ∷ given c.requires.vector.y ∷ given c.requires.sum.y ∷ []) (λ xs h w v s. simp (w, v, s, codes) (fits xs h w128 _ tt))

pub overflow_mul-result-3 : goal.overflow_mul-result-3
overflow_mul-result-3 c =
    with_inputs (given c.requires.weight ∷ given c.requires.vector.z ∷ []) (λ xs h w v. simp (w, v, codes) (fits xs h w128 _ tt))

pub overflow_add-result-4 : goal.overflow_add-result-4
overflow_add-result-4 c =
    with_inputs (given c.requires.weight ∷ given c.requires.vector.z ∷ given c.requires.sum.z ∷ []) (λ xs h w v s. simp (w, v, s, codes) (fits xs h w128 _ tt))

pub returns-clause-mass : goal.returns-clause-mass
returns-clause-mass c =
    with_inputs (given c.requires.mass ∷ given c.requires.weight ∷ []) (λ xs h m w. simp (m, w, codes) (computes xs h _ _ tt tt))

pub returns-clause-sum : goal.returns-clause-sum
returns-clause-sum c =
    same_point
    (with_inputs (given c.requires.weight ∷ given c.requires.vector.x ∷ given c.requires.sum.x ∷ []) (λ xs h w v s. simp (w, v, s, codes) (computes xs h _ _ tt tt)))
    (with_inputs (given c.requires.weight ∷ given c.requires.vector.y ∷ given c.requires.sum.y ∷ []) (λ xs h w v s. simp (w, v, s, codes) (computes xs h _ _ tt tt)))
    (with_inputs (given c.requires.weight ∷ given c.requires.vector.z ∷ given c.requires.sum.z ∷ []) (λ xs h w v s. simp (w, v, s, codes) (computes xs h _ _ tt tt)))

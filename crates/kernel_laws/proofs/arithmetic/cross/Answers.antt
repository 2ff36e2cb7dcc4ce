use Rattle.std.proofs.Common.{[], ◌∷◌, w64}
use Rattle.integers.proofs.MachineArithmetic.{given, with_inputs, codes, computes, fits, size_within}
use Rattle.kernel_laws.proofs.Points.{same_point}
use Rattle.kernel_laws.proofs.arithmetic.cross.Goals as goal

pub overflow_sub-result : goal.overflow_sub-result
overflow_sub-result c = with_inputs (given c.requires.u.x ∷ given c.requires.u.y ∷ given c.requires.u.z ∷ given c.requires.v.x ∷ given c.requires.v.y ∷ given c.requires.v.z ∷ []) (λ xs h v0 v1 v2 v3 v4 v5. simp (v0, v1, v2, v3, v4, v5, codes) (fits xs h w64 _ tt))

pub overflow_mul-result-3 : goal.overflow_mul-result-3
overflow_mul-result-3 c = with_inputs (given c.requires.u.x ∷ given c.requires.u.y ∷ given c.requires.u.z ∷ given c.requires.v.x ∷ given c.requires.v.y ∷ given c.requires.v.z ∷ []) (λ xs h v0 v1 v2 v3 v4 v5. simp (v0, v1, v2, v3, v4, v5, codes) (fits xs h w64 _ tt))

pub overflow_mul-result-4 : goal.overflow_mul-result-4
overflow_mul-result-4 c = with_inputs (given c.requires.u.x ∷ given c.requires.u.y ∷ given c.requires.u.z ∷ given c.requires.v.x ∷ given c.requires.v.y ∷ given c.requires.v.z ∷ []) (λ xs h v0 v1 v2 v3 v4 v5. simp (v0, v1, v2, v3, v4, v5, codes) (fits xs h w64 _ tt))

pub overflow_sub-result-2 : goal.overflow_sub-result-2
overflow_sub-result-2 c = with_inputs (given c.requires.u.x ∷ given c.requires.u.y ∷ given c.requires.u.z ∷ given c.requires.v.x ∷ given c.requires.v.y ∷ given c.requires.v.z ∷ []) (λ xs h v0 v1 v2 v3 v4 v5. simp (v0, v1, v2, v3, v4, v5, codes) (fits xs h w64 _ tt))

pub overflow_mul-result-5 : goal.overflow_mul-result-5
overflow_mul-result-5 c = with_inputs (given c.requires.u.x ∷ given c.requires.u.y ∷ given c.requires.u.z ∷ given c.requires.v.x ∷ given c.requires.v.y ∷ given c.requires.v.z ∷ []) (λ xs h v0 v1 v2 v3 v4 v5. simp (v0, v1, v2, v3, v4, v5, codes) (fits xs h w64 _ tt))

pub overflow_mul-result-6 : goal.overflow_mul-result-6
overflow_mul-result-6 c = with_inputs (given c.requires.u.x ∷ given c.requires.u.y ∷ given c.requires.u.z ∷ given c.requires.v.x ∷ given c.requires.v.y ∷ given c.requires.v.z ∷ []) (λ xs h v0 v1 v2 v3 v4 v5. simp (v0, v1, v2, v3, v4, v5, codes) (fits xs h w64 _ tt))

pub overflow_sub-result-3 : goal.overflow_sub-result-3
overflow_sub-result-3 c = with_inputs (given c.requires.u.x ∷ given c.requires.u.y ∷ given c.requires.u.z ∷ given c.requires.v.x ∷ given c.requires.v.y ∷ given c.requires.v.z ∷ []) (λ xs h v0 v1 v2 v3 v4 v5. simp (v0, v1, v2, v3, v4, v5, codes) (fits xs h w64 _ tt))

pub returns-clause-value : goal.returns-clause-value
returns-clause-value c = same_point
    (with_inputs (given c.requires.u.x ∷ given c.requires.u.y ∷ given c.requires.u.z ∷ given c.requires.v.x ∷ given c.requires.v.y ∷ given c.requires.v.z ∷ []) (λ xs h v0 v1 v2 v3 v4 v5. simp (v0, v1, v2, v3, v4, v5, codes) (computes xs h _ _ tt tt)))
    (with_inputs (given c.requires.u.x ∷ given c.requires.u.y ∷ given c.requires.u.z ∷ given c.requires.v.x ∷ given c.requires.v.y ∷ given c.requires.v.z ∷ []) (λ xs h v0 v1 v2 v3 v4 v5. simp (v0, v1, v2, v3, v4, v5, codes) (computes xs h _ _ tt tt)))
    (with_inputs (given c.requires.u.x ∷ given c.requires.u.y ∷ given c.requires.u.z ∷ given c.requires.v.x ∷ given c.requires.v.y ∷ given c.requires.v.z ∷ []) (λ xs h v0 v1 v2 v3 v4 v5. simp (v0, v1, v2, v3, v4, v5, codes) (computes xs h _ _ tt tt)))

pub returns-clause-within : goal.returns-clause-within
returns-clause-within c = record { x = with_inputs (given c.requires.u.x ∷ given c.requires.u.y ∷ given c.requires.u.z ∷ given c.requires.v.x ∷ given c.requires.v.y ∷ given c.requires.v.z ∷ []) (λ xs h v0 v1 v2 v3 v4 v5. simp (v0, v1, v2, v3, v4, v5, codes) (size_within xs h _ tt)); y = with_inputs (given c.requires.u.x ∷ given c.requires.u.y ∷ given c.requires.u.z ∷ given c.requires.v.x ∷ given c.requires.v.y ∷ given c.requires.v.z ∷ []) (λ xs h v0 v1 v2 v3 v4 v5. simp (v0, v1, v2, v3, v4, v5, codes) (size_within xs h _ tt)); z = with_inputs (given c.requires.u.x ∷ given c.requires.u.y ∷ given c.requires.u.z ∷ given c.requires.v.x ∷ given c.requires.v.y ∷ given c.requires.v.z ∷ []) (λ xs h v0 v1 v2 v3 v4 v5. simp (v0, v1, v2, v3, v4, v5, codes) (size_within xs h _ tt)) }

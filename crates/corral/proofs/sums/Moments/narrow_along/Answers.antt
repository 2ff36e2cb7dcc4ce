use Rattle.std.proofs.Common.{[], ◌∷◌}
use mir.Syntax.{w64}
use Rattle.integers.proofs.MachineArithmetic.{given, with_inputs, codes, computes, fits, size_within}
use Rattle.corral.proofs.sums.Moments.narrow_along.Goals as goal

pub overflow_mul-result : goal.overflow_mul-result
overflow_mul-result c = with_inputs (given c.requires.vector.x ∷ given c.requires.vector.y ∷ given c.requires.vector.z ∷ given c.requires.narrow.sum.x ∷ given c.requires.narrow.sum.y ∷ given c.requires.narrow.sum.z ∷ []) (λ xs h x y z p q r. simp (x, y, z, p, q, r, codes) (fits xs h w64 _ tt))

pub overflow_mul-result-2 : goal.overflow_mul-result-2
overflow_mul-result-2 c = with_inputs (given c.requires.vector.x ∷ given c.requires.vector.y ∷ given c.requires.vector.z ∷ given c.requires.narrow.sum.x ∷ given c.requires.narrow.sum.y ∷ given c.requires.narrow.sum.z ∷ []) (λ xs h x y z p q r. simp (x, y, z, p, q, r, codes) (fits xs h w64 _ tt))

pub overflow_add-result : goal.overflow_add-result
overflow_add-result c = with_inputs (given c.requires.vector.x ∷ given c.requires.vector.y ∷ given c.requires.vector.z ∷ given c.requires.narrow.sum.x ∷ given c.requires.narrow.sum.y ∷ given c.requires.narrow.sum.z ∷ []) (λ xs h x y z p q r. simp (x, y, z, p, q, r, codes) (fits xs h w64 _ tt))

pub overflow_mul-result-3 : goal.overflow_mul-result-3
overflow_mul-result-3 c = with_inputs (given c.requires.vector.x ∷ given c.requires.vector.y ∷ given c.requires.vector.z ∷ given c.requires.narrow.sum.x ∷ given c.requires.narrow.sum.y ∷ given c.requires.narrow.sum.z ∷ []) (λ xs h x y z p q r. simp (x, y, z, p, q, r, codes) (fits xs h w64 _ tt))

pub overflow_add-result-2 : goal.overflow_add-result-2
overflow_add-result-2 c = with_inputs (given c.requires.vector.x ∷ given c.requires.vector.y ∷ given c.requires.vector.z ∷ given c.requires.narrow.sum.x ∷ given c.requires.narrow.sum.y ∷ given c.requires.narrow.sum.z ∷ []) (λ xs h x y z p q r. simp (x, y, z, p, q, r, codes) (fits xs h w64 _ tt))

pub returns-clause-value : goal.returns-clause-value
returns-clause-value c = with_inputs (given c.requires.vector.x ∷ given c.requires.vector.y ∷ given c.requires.vector.z ∷ given c.requires.narrow.sum.x ∷ given c.requires.narrow.sum.y ∷ given c.requires.narrow.sum.z ∷ []) (λ xs h x y z p q r. simp (x, y, z, p, q, r, codes) (computes xs h _ _ tt tt))

pub returns-clause-size : goal.returns-clause-size
returns-clause-size c = with_inputs (given c.requires.vector.x ∷ given c.requires.vector.y ∷ given c.requires.vector.z ∷ given c.requires.narrow.sum.x ∷ given c.requires.narrow.sum.y ∷ given c.requires.narrow.sum.z ∷ []) (λ xs h x y z p q r. simp (x, y, z, p, q, r, codes) (size_within xs h _ tt))

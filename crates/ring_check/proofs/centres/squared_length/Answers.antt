use Rattle.std.proofs.Common.{sym, subst, pos, ◌≤ℤ◌, List, [], ◌∷◌}
use mir.Syntax.{w64}
use Rattle.integers.proofs.Sizes.{size_add, size_mul, below_size}
use Rattle.integers.proofs.Order.{nonneg_add, square_nonneg}
use Rattle.integers.proofs.MachineArithmetic.{Given, given, with_inputs, codes, computes, fits}
use Rattle.bounds_model.specs.Space.{SpacePoint}
use Rattle.kernel_laws.specs.Limits.{IsVectorWithin}
use Rattle.ring_check.specs.Rings.{square_limit}
use Rattle.ring_check.proofs.centres.squared_length.Goals as goal

-- the coordinates, each with its bound
abbrev inputs : {p : SpacePoint} → IsVectorWithin 200000 p → List Given
inputs p = given p.x ∷ given p.y ∷ given p.z ∷ []

pub overflow_mul-result : goal.overflow_mul-result
overflow_mul-result c = with_inputs (inputs c.requires) (λ xs h x y z. simp (x, y, z, codes) (fits xs h w64 _ tt))

pub overflow_mul-result-2 : goal.overflow_mul-result-2
overflow_mul-result-2 c = with_inputs (inputs c.requires) (λ xs h x y z. simp (x, y, z, codes) (fits xs h w64 _ tt))

pub overflow_add-result : goal.overflow_add-result
overflow_add-result c = with_inputs (inputs c.requires) (λ xs h x y z. simp (x, y, z, codes) (fits xs h w64 _ tt))

pub overflow_mul-result-3 : goal.overflow_mul-result-3
overflow_mul-result-3 c = with_inputs (inputs c.requires) (λ xs h x y z. simp (x, y, z, codes) (fits xs h w64 _ tt))

pub overflow_add-result-2 : goal.overflow_add-result-2
overflow_add-result-2 c = with_inputs (inputs c.requires) (λ xs h x y z. simp (x, y, z, codes) (fits xs h w64 _ tt))

pub returns-clause-value : goal.returns-clause-value
returns-clause-value c = with_inputs (inputs c.requires) (λ xs h x y z. simp (x, y, z, codes) (computes xs h _ _ tt tt))

pub returns-clause-low : goal.returns-clause-low
returns-clause-low c =
    subst (λ z. pos 0 ≤ℤ z) (sym (returns-clause-value c)) (nonneg_add (nonneg_add (square_nonneg c.args.p.x) (square_nonneg c.args.p.y)) (square_nonneg c.args.p.z))

pub returns-clause-high : goal.returns-clause-high
returns-clause-high c =
    let p = c.requires in
    subst (λ z. z ≤ℤ pos square_limit) (sym (returns-clause-value c)) (below_size (size_add (size_add (size_mul p.x p.x) (size_mul p.y p.y)) (size_mul p.z p.z)))

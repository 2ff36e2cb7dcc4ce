use Rattle.std.proofs.Common.{ℤ, List, [], ◌∷◌, w64}
use Rattle.bounds_model.specs.Numbers.{IsWithin}
use Rattle.integers.proofs.MachineArithmetic.{Given, given, with_inputs, codes, computes, fits, size_within}
use Rattle.directions.proofs.Bounds.{size_in}
use Rattle.directions.proofs.products.squared_distance.Goals as goal

-- the coordinates, each with its bound
abbrev inputs : {ax ay bx by : ℤ} → IsWithin 200000 ax → IsWithin 200000 ay → IsWithin 200000 bx → IsWithin 200000 by → List Given
inputs ax ay bx by = given (size_in ax) ∷ given (size_in ay) ∷ given (size_in bx) ∷ given (size_in by) ∷ []

pub overflow_mul-result : goal.overflow_mul-result
overflow_mul-result c =
    with_inputs (inputs c.x-2.ensures.bounds c.y-2.ensures.bounds c.x.ensures.bounds c.y.ensures.bounds) (λ xs h a b d e. simp (a, b, d, e, codes) (fits xs h w64 _ tt))

pub overflow_mul-result-2 : goal.overflow_mul-result-2
overflow_mul-result-2 c =
    with_inputs (inputs c.x-2.ensures.bounds c.y-2.ensures.bounds c.x.ensures.bounds c.y.ensures.bounds) (λ xs h a b d e. simp (a, b, d, e, codes) (fits xs h w64 _ tt))

pub overflow_add-result : goal.overflow_add-result
overflow_add-result c =
    with_inputs (inputs c.x-2.ensures.bounds c.y-2.ensures.bounds c.x.ensures.bounds c.y.ensures.bounds) (λ xs h a b d e. simp (a, b, d, e, codes) (fits xs h w64 _ tt))

pub returns-clause-value : goal.returns-clause-value
returns-clause-value c =
    rw (← c.x.ensures.value, ← c.y.ensures.value, ← c.x-2.ensures.value, ← c.y-2.ensures.value)
    (with_inputs (inputs c.x-2.ensures.bounds c.y-2.ensures.bounds c.x.ensures.bounds c.y.ensures.bounds) (λ xs h a b d e. simp (a, b, d, e, codes) (computes xs h _ _ tt tt)))

pub returns-clause-size : goal.returns-clause-size
returns-clause-size c =
    with_inputs (inputs c.x-2.ensures.bounds c.y-2.ensures.bounds c.x.ensures.bounds c.y.ensures.bounds) (λ xs h a b d e. simp (a, b, d, e, codes) (size_within xs h _ tt))

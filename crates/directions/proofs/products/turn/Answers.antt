use Rattle.std.proofs.Common.{ℤ, List, [], ◌∷◌, w64}
use Rattle.bounds_model.specs.Numbers.{IsWithin}
use Rattle.integers.proofs.MachineArithmetic.{Given, given, with_inputs, codes, computes, fits, size_within}
use Rattle.directions.proofs.Bounds.{size_in}
use Rattle.directions.proofs.products.turn.Goals as goal

-- the coordinates, each with its bound
abbrev inputs : {ax ay bx by cx cy : ℤ} → IsWithin 200000 ax → IsWithin 200000 ay → IsWithin 200000 bx → IsWithin 200000 by → IsWithin 200000 cx → IsWithin 200000 cy → List Given
inputs ax ay bx by cx cy = given (size_in ax) ∷ given (size_in ay) ∷ given (size_in bx) ∷ given (size_in by) ∷ given (size_in cx) ∷ given (size_in cy) ∷ []

pub overflow_mul-result : goal.overflow_mul-result
overflow_mul-result c =
    with_inputs (inputs c.x.ensures.bounds c.y.ensures.bounds c.x-2.ensures.bounds c.y.ensures.bounds c.x.ensures.bounds c.y-2.ensures.bounds)
    (λ xs h a b d e f g. simp (a, b, d, g, codes) (fits xs h w64 _ tt))

pub overflow_mul-result-2 : goal.overflow_mul-result-2
overflow_mul-result-2 c =
    with_inputs (inputs c.x.ensures.bounds c.y.ensures.bounds c.x-2.ensures.bounds c.y-3.ensures.bounds c.x-3.ensures.bounds c.y-2.ensures.bounds)
    (λ xs h a b d e f g. simp (a, b, e, f, codes) (fits xs h w64 _ tt))

pub overflow_sub-result-3 : goal.overflow_sub-result-3
overflow_sub-result-3 c = with_inputs (given (size_in c.y-3.ensures.bounds) ∷ given (size_in c.y.ensures.bounds) ∷ []) (λ xs h a b. simp (a, b, codes) (fits xs h w64 _ tt))

pub overflow_sub-result-5 : goal.overflow_sub-result-5
overflow_sub-result-5 c =
    with_inputs (inputs c.x.ensures.bounds c.y.ensures.bounds c.x-2.ensures.bounds c.y-3.ensures.bounds c.x-3.ensures.bounds c.y-2.ensures.bounds)
    (λ xs h a b d e f g. simp (a, b, d, e, f, g, codes) (fits xs h w64 _ tt))

pub returns-clause-value : goal.returns-clause-value
returns-clause-value c =
    rw (← c.x.ensures.value, ← c.y.ensures.value, ← c.x-2.ensures.value, ← c.y-3.ensures.value, ← c.x-3.ensures.value, ← c.y-2.ensures.value)
    (with_inputs (inputs c.x.ensures.bounds c.y.ensures.bounds c.x-2.ensures.bounds c.y-3.ensures.bounds c.x-3.ensures.bounds c.y-2.ensures.bounds)
    (λ xs h a b d e f g. simp (a, b, d, e, f, g, codes) (computes xs h _ _ tt tt)))

pub returns-clause-size : goal.returns-clause-size
returns-clause-size c =
    with_inputs (inputs c.x.ensures.bounds c.y.ensures.bounds c.x-2.ensures.bounds c.y-3.ensures.bounds c.x-3.ensures.bounds c.y-2.ensures.bounds)
    (λ xs h a b d e f g. simp (a, b, d, e, f, g, codes) (size_within xs h _ tt))

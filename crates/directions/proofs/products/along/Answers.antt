use Rattle.std.proofs.Common.{ℤ, List, [], ◌∷◌, w64}
use Rattle.bounds_model.specs.Numbers.{IsWithin}
use Rattle.integers.proofs.MachineArithmetic.{Given, given, with_inputs, codes, computes, fits, size_within}
use Rattle.directions.proofs.Bounds.{size_in}
use Rattle.directions.proofs.products.along.Goals as goal

-- the coordinates, each with its bound
abbrev inputs : {dx dy px py : ℤ} → IsWithin 400000 dx → IsWithin 400000 dy → IsWithin 200000 px → IsWithin 200000 py → List Given
inputs a b p q = given (size_in a) ∷ given (size_in b) ∷ given (size_in p) ∷ given (size_in q) ∷ []

pub overflow_add-result : goal.overflow_add-result
overflow_add-result c = with_inputs (inputs c.requires.x c.requires.y c.x.ensures.bounds c.y.ensures.bounds) (λ xs h a b p q. simp (a, b, p, q, codes) (fits xs h w64 _ tt))

pub returns-clause-value : goal.returns-clause-value
returns-clause-value c =
    rw (← c.x.ensures.value, ← c.y.ensures.value)
    (with_inputs (inputs c.requires.x c.requires.y c.x.ensures.bounds c.y.ensures.bounds) (λ xs h a b p q. simp (a, b, p, q, codes) (computes xs h _ _ tt tt)))

pub returns-clause-size : goal.returns-clause-size
returns-clause-size c = with_inputs (inputs c.requires.x c.requires.y c.x.ensures.bounds c.y.ensures.bounds) (λ xs h a b p q. simp (a, b, p, q, codes) (size_within xs h _ tt))

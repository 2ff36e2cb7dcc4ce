use Rattle.std.proofs.Common.{List, [], ◌∷◌, w64}
use Rattle.integers.proofs.MachineArithmetic.{Given, given, with_inputs, codes, computes, fits, size_within}
use Rattle.added_areas.specs.declared.vectors.PlaneVector.{PlaneVector}
use Rattle.added_areas.specs.PlaneVectors.{IsShort}
use Rattle.added_areas.proofs.vectors.area.Goals as goal

-- the coordinates, each with its bound
abbrev inputs : {from to : PlaneVector} → IsShort from → IsShort to → List Given
inputs h k = given h.x ∷ given h.y ∷ given k.x ∷ given k.y ∷ []

pub overflow_sub-result : goal.overflow_sub-result
overflow_sub-result c = with_inputs (inputs c.requires.from c.requires.to) (λ xs h a b d e. simp (a, b, d, e, codes) (fits xs h w64 _ tt))

pub returns-clause-value : goal.returns-clause-value
returns-clause-value c = with_inputs (inputs c.requires.from c.requires.to) (λ xs h a b d e. simp (a, b, d, e, codes) (computes xs h _ _ tt tt))

pub returns-clause-small : goal.returns-clause-small
returns-clause-small c = with_inputs (inputs c.requires.from c.requires.to) (λ xs h a b d e. simp (a, b, d, e, codes) (size_within xs h _ tt))

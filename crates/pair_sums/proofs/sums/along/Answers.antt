use Rattle.std.proofs.Common.{List, [], ◌∷◌, ◌^◌}
use mir.Syntax.{w128}
use Rattle.bounds_model.specs.Space.{SpacePoint}
use Rattle.kernel_laws.specs.Limits.{IsVectorWithin}
use Rattle.integers.proofs.MachineArithmetic.{Given, given, with_inputs, codes, computes, fits, size_within}
use Rattle.pair_sums.proofs.sums.along.Goals as goal

-- the coordinates, each with its bound
abbrev inputs : {a b : SpacePoint} → IsVectorWithin (2 ^ 80) a → IsVectorWithin 16000 b → List Given
inputs a b = given a.x ∷ given a.y ∷ given a.z ∷ given b.x ∷ given b.y ∷ given b.z ∷ []

pub overflow_mul-result-3 : goal.overflow_mul-result-3
overflow_mul-result-3 c = with_inputs (inputs c.requires.pull c.requires.vector) (λ xs h d e f g i j. simp (d, e, f, g, i, j, codes) (fits xs h w128 _ tt))

pub overflow_add-result : goal.overflow_add-result
overflow_add-result c = with_inputs (inputs c.requires.pull c.requires.vector) (λ xs h d e f g i j. simp (d, e, f, g, i, j, codes) (fits xs h w128 _ tt))

pub overflow_add-result-2 : goal.overflow_add-result-2
overflow_add-result-2 c = with_inputs (inputs c.requires.pull c.requires.vector) (λ xs h d e f g i j. simp (d, e, f, g, i, j, codes) (fits xs h w128 _ tt))

pub returns-clause-value : goal.returns-clause-value
returns-clause-value c = with_inputs (inputs c.requires.pull c.requires.vector) (λ xs h d e f g i j. simp (d, e, f, g, i, j, codes) (computes xs h _ _ tt tt))

pub returns-clause-limit : goal.returns-clause-limit
returns-clause-limit c = with_inputs (inputs c.requires.pull c.requires.vector) (λ xs h d e f g i j. simp (d, e, f, g, i, j, codes) (size_within xs h _ tt))

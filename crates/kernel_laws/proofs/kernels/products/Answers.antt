use Rattle.std.proofs.Common.{List, [], ◌∷◌, ◌^◌}
use mir.Syntax.{w128}
use Rattle.bounds_model.specs.Space.{SpacePoint}
use Rattle.kernel_laws.specs.Limits.{IsVectorWithin}
use Rattle.integers.proofs.MachineArithmetic.{Given, given, with_inputs, codes, computes, fits}
use Rattle.kernel_laws.proofs.kernels.products.Goals as goal

-- the coordinates, each with its bound
abbrev inputs : {a b : SpacePoint} → IsVectorWithin (2 ^ 62) a → IsVectorWithin (2 ^ 62) b → List Given
inputs a b = given a.x ∷ given a.y ∷ given a.z ∷ given b.x ∷ given b.y ∷ given b.z ∷ []

pub overflow_add-result : goal.overflow_add-result
overflow_add-result c = with_inputs (inputs c.requires.a c.requires.b) (λ xs h d e f g i j. simp (d, e, f, g, i, j, codes) (fits xs h w128 _ tt))

pub overflow_add-result-2 : goal.overflow_add-result-2
overflow_add-result-2 c = with_inputs (inputs c.requires.a c.requires.b) (λ xs h d e f g i j. simp (d, e, f, g, i, j, codes) (fits xs h w128 _ tt))

pub returns : goal.returns
returns c = with_inputs (inputs c.requires.a c.requires.b) (λ xs h d e f g i j. simp (d, e, f, g, i, j, codes) (computes xs h _ _ tt tt))

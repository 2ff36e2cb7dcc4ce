use Rattle.std.proofs.Common.{ℤ, ◌*ℤ◌, ◌-ℤ◌, List, [], ◌∷◌, ap₂, w64}
use Rattle.bounds_model.specs.Space.{SpacePoint}
use Rattle.kernel_laws.specs.Limits.{IsVectorWithin}
use Rattle.kernel_laws.specs.Vectors.{vector_of}
use Rattle.integers.proofs.MachineArithmetic.{Given, given, with_inputs, codes, computes, fits}
use Rattle.kernel_laws.proofs.Signed.{sign_of_middle}
use Rattle.kernel_laws.proofs.signs.orient2.Goals as goal

-- the cross product of the first two coordinates
abbrev cross : SpacePoint → SpacePoint → ℤ
cross u v = u.x *ℤ v.y -ℤ u.y *ℤ v.x

-- the coordinates, each with its bound
abbrev inputs : {u : SpacePoint} {v : SpacePoint} → IsVectorWithin 400000 u → IsVectorWithin 400000 v → List Given
inputs u v = given u.x ∷ given u.y ∷ given v.x ∷ given v.y ∷ []

pub overflow_sub-u : goal.overflow_sub-u
overflow_sub-u c = with_inputs (inputs c.diff-u.ensures.difference.within c.diff-v.ensures.difference.within) (λ xs h d e f g. simp (d, e, f, g, codes) (fits xs h w64 _ tt))

pub returns : goal.returns
returns c =
    sign_of_middle c.sign_of_number.ensures (cross (vector_of c.diff-u.result) (vector_of c.diff-v.result))
    (with_inputs (inputs c.diff-u.ensures.difference.within c.diff-v.ensures.difference.within) (λ xs h d e f g. simp (d, e, f, g, codes) (computes xs h _ _ tt tt)))
    (ap₂ cross c.diff-u.ensures.value c.diff-v.ensures.value)

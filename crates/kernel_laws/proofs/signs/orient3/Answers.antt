use Rattle.std.proofs.Common.{List, [], ◌∷◌, w64}
use Rattle.bounds_model.specs.Space.{SpacePoint}
use Rattle.kernel_laws.specs.Limits.{IsVectorWithin}
use Rattle.kernel_laws.specs.Signs.{determinant}
use Rattle.kernel_laws.specs.Vectors.{vector_of}
use Rattle.integers.proofs.MachineArithmetic.{Given, given, with_inputs, codes, computes, fits}
use mir.Syntax.{w128}
use Rattle.kernel_laws.proofs.Points.{same_determinant}
use Rattle.kernel_laws.proofs.Signed.{sign_of_middle}
use Rattle.kernel_laws.proofs.signs.orient3.Goals as goal

-- the coordinates, each with its bound
abbrev inputs : {u : SpacePoint} {v : SpacePoint} {w : SpacePoint} → IsVectorWithin 16000 u → IsVectorWithin 16000 v → IsVectorWithin 16000 w → List Given
inputs u v w = given u.x ∷ given u.y ∷ given u.z ∷ given v.x ∷ given v.y ∷ given v.z ∷ given w.x ∷ given w.y ∷ given w.z ∷ []

pub overflow_mul-volume : goal.overflow_mul-volume
overflow_mul-volume c = with_inputs (inputs c.diff-u.ensures.difference.within c.diff-v.ensures.difference.within c.diff-w.ensures.difference.within) (λ xs h d e f g i j k l m. simp (d, e, f, g, i, j, k, l, m, codes) (fits xs h w64 _ tt))

pub overflow_mul-volume-2 : goal.overflow_mul-volume-2
overflow_mul-volume-2 c = with_inputs (inputs c.diff-u.ensures.difference.within c.diff-v.ensures.difference.within c.diff-w.ensures.difference.within) (λ xs h d e f g i j k l m. simp (d, e, f, g, i, j, k, l, m, codes) (fits xs h w64 _ tt))

pub overflow_sub-volume : goal.overflow_sub-volume
overflow_sub-volume c = with_inputs (inputs c.diff-u.ensures.difference.within c.diff-v.ensures.difference.within c.diff-w.ensures.difference.within) (λ xs h d e f g i j k l m. simp (d, e, f, g, i, j, k, l, m, codes) (fits xs h w64 _ tt))

pub overflow_mul-volume-3 : goal.overflow_mul-volume-3
overflow_mul-volume-3 c = with_inputs (inputs c.diff-u.ensures.difference.within c.diff-v.ensures.difference.within c.diff-w.ensures.difference.within) (λ xs h d e f g i j k l m. simp (d, e, f, g, i, j, k, l, m, codes) (fits xs h w64 _ tt))

pub overflow_mul-volume-4 : goal.overflow_mul-volume-4
overflow_mul-volume-4 c = with_inputs (inputs c.diff-u.ensures.difference.within c.diff-v.ensures.difference.within c.diff-w.ensures.difference.within) (λ xs h d e f g i j k l m. simp (d, e, f, g, i, j, k, l, m, codes) (fits xs h w64 _ tt))

pub overflow_mul-volume-5 : goal.overflow_mul-volume-5
overflow_mul-volume-5 c = with_inputs (inputs c.diff-u.ensures.difference.within c.diff-v.ensures.difference.within c.diff-w.ensures.difference.within) (λ xs h d e f g i j k l m. simp (d, e, f, g, i, j, k, l, m, codes) (fits xs h w64 _ tt))

pub overflow_sub-volume-2 : goal.overflow_sub-volume-2
overflow_sub-volume-2 c = with_inputs (inputs c.diff-u.ensures.difference.within c.diff-v.ensures.difference.within c.diff-w.ensures.difference.within) (λ xs h d e f g i j k l m. simp (d, e, f, g, i, j, k, l, m, codes) (fits xs h w64 _ tt))

pub overflow_mul-volume-6 : goal.overflow_mul-volume-6
overflow_mul-volume-6 c = with_inputs (inputs c.diff-u.ensures.difference.within c.diff-v.ensures.difference.within c.diff-w.ensures.difference.within) (λ xs h d e f g i j k l m. simp (d, e, f, g, i, j, k, l, m, codes) (fits xs h w64 _ tt))

pub overflow_sub-volume-3 : goal.overflow_sub-volume-3
overflow_sub-volume-3 c = with_inputs (inputs c.diff-u.ensures.difference.within c.diff-v.ensures.difference.within c.diff-w.ensures.difference.within) (λ xs h d e f g i j k l m. simp (d, e, f, g, i, j, k, l, m, codes) (fits xs h w64 _ tt))

pub overflow_mul-volume-7 : goal.overflow_mul-volume-7
overflow_mul-volume-7 c = with_inputs (inputs c.diff-u.ensures.difference.within c.diff-v.ensures.difference.within c.diff-w.ensures.difference.within) (λ xs h d e f g i j k l m. simp (d, e, f, g, i, j, k, l, m, codes) (fits xs h w64 _ tt))

pub overflow_mul-volume-8 : goal.overflow_mul-volume-8
overflow_mul-volume-8 c = with_inputs (inputs c.diff-u.ensures.difference.within c.diff-v.ensures.difference.within c.diff-w.ensures.difference.within) (λ xs h d e f g i j k l m. simp (d, e, f, g, i, j, k, l, m, codes) (fits xs h w64 _ tt))

pub overflow_sub-volume-4 : goal.overflow_sub-volume-4
overflow_sub-volume-4 c = with_inputs (inputs c.diff-u.ensures.difference.within c.diff-v.ensures.difference.within c.diff-w.ensures.difference.within) (λ xs h d e f g i j k l m. simp (d, e, f, g, i, j, k, l, m, codes) (fits xs h w64 _ tt))

pub overflow_mul-volume-9 : goal.overflow_mul-volume-9
overflow_mul-volume-9 c = with_inputs (inputs c.diff-u.ensures.difference.within c.diff-v.ensures.difference.within c.diff-w.ensures.difference.within) (λ xs h d e f g i j k l m. simp (d, e, f, g, i, j, k, l, m, codes) (fits xs h w64 _ tt))

pub overflow_add-volume : goal.overflow_add-volume
overflow_add-volume c = with_inputs (inputs c.diff-u.ensures.difference.within c.diff-v.ensures.difference.within c.diff-w.ensures.difference.within) (λ xs h d e f g i j k l m. simp (d, e, f, g, i, j, k, l, m, codes) (fits xs h w64 _ tt))

pub overflow_cast-volume : goal.overflow_cast-volume
overflow_cast-volume c = with_inputs (inputs c.diff-u.ensures.difference.within c.diff-v.ensures.difference.within c.diff-w.ensures.difference.within) (λ xs h d e f g i j k l m. simp (d, e, f, g, i, j, k, l, m, codes) (fits xs h w128 _ tt))

pub returns : goal.returns
returns c =
    sign_of_middle c.sign_of_number.ensures (determinant (vector_of c.diff-u.result) (vector_of c.diff-v.result) (vector_of c.diff-w.result))
    (with_inputs (inputs c.diff-u.ensures.difference.within c.diff-v.ensures.difference.within c.diff-w.ensures.difference.within) (λ xs h d e f g i j k l m. simp (d, e, f, g, i, j, k, l, m, codes) (computes xs h _ _ tt tt)))
    (same_determinant c.diff-u.ensures.value c.diff-v.ensures.value c.diff-w.ensures.value)

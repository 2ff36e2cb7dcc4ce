use Rattle.std.proofs.Common.{◌≡◌, ◌∙◌, ap, sym, subst, List, ℤ, pos, ◌-ℤ◌, ◌+ℤ◌, ◌*ℤ◌, ◌^◌, [], ◌∷◌}
use mir.Syntax.{w128}
use Rattle.integers.specs.Size.{Size}
use Rattle.integers.proofs.MachineArithmetic.{Given, given, with_inputs, codes, computes, fits, number}
use Rattle.bounds_model.specs.Space.{SpacePoint, SpaceRatio}
use Rattle.kernel_laws.specs.Vectors.{vector_of}
use Rattle.kernel_laws.specs.Limits.{IsVectorWithin}
use Rattle.ring_check.specs.Rings.{IsCentre, ratio_of, HasLevelSize, square_limit}
use Rattle.ring_check.proofs.RingNumbers.{square_size, level_size}
use Rattle.ring_check.proofs.centres.Centre.level.Goals as goal

-- by a number between
through : {m z : ℤ} (v : ℤ) → m ≡ v → v ≡ z → m ≡ z
through v e f = e ∙ f

-- the numbers of the centre and of the point, and the squared length, each with its bound
abbrev inputs : {c : SpaceRatio} {p : SpacePoint} {s : ℤ} → IsCentre (2 ^ 50) c → IsVectorWithin 200000 p → Size square_limit s → List Given
inputs c p s = given c.x ∷ given c.y ∷ given c.z ∷ given c.w ∷ given p.x ∷ given p.y ∷ given p.z ∷ given s ∷ []

pub overflow_mul-square : goal.overflow_mul-square
overflow_mul-square c =
    with_inputs (inputs c.requires.centre c.requires.point (square_size c.squared_length.ensures.low c.squared_length.ensures.high))
    (λ xs h v0 v1 v2 v3 v4 v5 v6 v7. simp (v0, v1, v2, v3, v4, v5, v6, v7, codes) (fits xs h w128 _ tt))

pub overflow_mul-across : goal.overflow_mul-across
overflow_mul-across c =
    with_inputs (inputs c.requires.centre c.requires.point (square_size c.squared_length.ensures.low c.squared_length.ensures.high))
    (λ xs h v0 v1 v2 v3 v4 v5 v6 v7. simp (v0, v1, v2, v3, v4, v5, v6, v7, codes) (fits xs h w128 _ tt))

pub overflow_mul-across-2 : goal.overflow_mul-across-2
overflow_mul-across-2 c =
    with_inputs (inputs c.requires.centre c.requires.point (square_size c.squared_length.ensures.low c.squared_length.ensures.high))
    (λ xs h v0 v1 v2 v3 v4 v5 v6 v7. simp (v0, v1, v2, v3, v4, v5, v6, v7, codes) (fits xs h w128 _ tt))

pub overflow_add-across : goal.overflow_add-across
overflow_add-across c =
    with_inputs (inputs c.requires.centre c.requires.point (square_size c.squared_length.ensures.low c.squared_length.ensures.high))
    (λ xs h v0 v1 v2 v3 v4 v5 v6 v7. simp (v0, v1, v2, v3, v4, v5, v6, v7, codes) (fits xs h w128 _ tt))

pub overflow_mul-result : goal.overflow_mul-result
overflow_mul-result c =
    with_inputs (inputs c.requires.centre c.requires.point (square_size c.squared_length.ensures.low c.squared_length.ensures.high))
    (λ xs h v0 v1 v2 v3 v4 v5 v6 v7. simp (v0, v1, v2, v3, v4, v5, v6, v7, codes) (fits xs h w128 _ tt))

pub overflow_add-result : goal.overflow_add-result
overflow_add-result c =
    with_inputs (inputs c.requires.centre c.requires.point (square_size c.squared_length.ensures.low c.squared_length.ensures.high))
    (λ xs h v0 v1 v2 v3 v4 v5 v6 v7. simp (v0, v1, v2, v3, v4, v5, v6, v7, codes) (fits xs h w128 _ tt))

pub overflow_mul-result-2 : goal.overflow_mul-result-2
overflow_mul-result-2 c =
    with_inputs (inputs c.requires.centre c.requires.point (square_size c.squared_length.ensures.low c.squared_length.ensures.high))
    (λ xs h v0 v1 v2 v3 v4 v5 v6 v7. simp (v0, v1, v2, v3, v4, v5, v6, v7, number xs 2, codes) (fits xs h w128 _ tt))

pub overflow_sub-result : goal.overflow_sub-result
overflow_sub-result c =
    with_inputs (inputs c.requires.centre c.requires.point (square_size c.squared_length.ensures.low c.squared_length.ensures.high))
    (λ xs h v0 v1 v2 v3 v4 v5 v6 v7. simp (v0, v1, v2, v3, v4, v5, v6, v7, number xs 2, codes) (fits xs h w128 _ tt))

pub returns-clause-value : goal.returns-clause-value
returns-clause-value c =
    through (c.args.self.w *ℤ c.squared_length.result -ℤ pos 2 *ℤ (c.args.self.x *ℤ c.args.p.x +ℤ c.args.self.y *ℤ c.args.p.y +ℤ c.args.self.z *ℤ c.args.p.z))
    (with_inputs (inputs c.requires.centre c.requires.point (square_size c.squared_length.ensures.low c.squared_length.ensures.high))
    (λ xs h v0 v1 v2 v3 v4 v5 v6 v7. simp (v0, v1, v2, v3, v4, v5, v6, v7, number xs 2, codes) (computes xs h _ _ tt tt)))
    (ap (λ s. c.args.self.w *ℤ s -ℤ pos 2 *ℤ (c.args.self.x *ℤ c.args.p.x +ℤ c.args.self.y *ℤ c.args.p.y +ℤ c.args.self.z *ℤ c.args.p.z)) c.squared_length.ensures.value)

pub returns-clause-size : goal.returns-clause-size
returns-clause-size c = subst (HasLevelSize (ratio_of c.args.self)) (sym (returns-clause-value c)) (level_size (ratio_of c.args.self) (vector_of c.args.p) c.requires.point)

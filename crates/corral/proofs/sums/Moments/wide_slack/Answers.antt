use Rattle.std.proofs.Common.{ℕ, ℤ, List, [], ◌∷◌, inl, inr}
use mir.Syntax.{w128}
use Rattle.bounds_model.specs.Space.{SpacePoint}
use Rattle.integers.proofs.MachineArithmetic.{Given, given, with_inputs, codes, computes, fits, number}
use Rattle.kernel_laws.specs.Vectors.{vector_of}
use Rattle.corral.proofs.MomentSizes.{MomentSizes, moment_sizes}
use Rattle.corral.proofs.sums.Moments.wide_slack.Goals as goal

-- the coordinates, the mass and the factor, each with its bound
abbrev inputs : {l m t : ℕ} {quadratic mass : ℤ} {v s : SpacePoint} → MomentSizes l m t quadratic v s mass → List Given
inputs b = given b.vector.x ∷ given b.vector.y ∷ given b.vector.z ∷ given b.sum.x ∷ given b.sum.y ∷ given b.sum.z ∷ given b.mass ∷ given b.flag ∷ []

pub overflow_mul-result : goal.overflow_mul-result
overflow_mul-result g c = elim (moment_sizes g.T.Potential.SQUARE g.K.Kernel.DIM c.args.self (vector_of c.args.v) g.T.Potential.zero_or_one g.met.K.Kernel.two_or_three c.requires.within c.requires.vector) [
  | inl b ↦ with_inputs (inputs b) (λ xs h x y z p q r m f. simp (c.wide_along.ensures, number xs 2, x, y, z, p, q, r, m, f, codes) (fits xs h w128 _ tt))
  | inr b ↦ with_inputs (inputs b) (λ xs h x y z p q r m f. simp (c.wide_along.ensures, number xs 2, x, y, z, p, q, r, m, f, codes) (fits xs h w128 _ tt))
]

pub overflow_mul-result-2 : goal.overflow_mul-result-2
overflow_mul-result-2 g c = elim (moment_sizes g.T.Potential.SQUARE g.K.Kernel.DIM c.args.self (vector_of c.args.v) g.T.Potential.zero_or_one g.met.K.Kernel.two_or_three c.requires.within c.requires.vector) [
  | inl b ↦ with_inputs (inputs b) (λ xs h x y z p q r m f. simp (c.dot.ensures, x, y, z, p, q, r, m, f, codes) (fits xs h w128 _ tt))
  | inr b ↦ with_inputs (inputs b) (λ xs h x y z p q r m f. simp (c.dot.ensures, x, y, z, p, q, r, m, f, codes) (fits xs h w128 _ tt))
]

pub overflow_mul-result-3 : goal.overflow_mul-result-3
overflow_mul-result-3 g c = elim (moment_sizes g.T.Potential.SQUARE g.K.Kernel.DIM c.args.self (vector_of c.args.v) g.T.Potential.zero_or_one g.met.K.Kernel.two_or_three c.requires.within c.requires.vector) [
  | inl b ↦ with_inputs (inputs b) (λ xs h x y z p q r m f. simp (c.dot.ensures, c.SQUARE.ensures, x, y, z, p, q, r, m, f, codes) (fits xs h w128 _ tt))
  | inr b ↦ with_inputs (inputs b) (λ xs h x y z p q r m f. simp (c.dot.ensures, c.SQUARE.ensures, x, y, z, p, q, r, m, f, codes) (fits xs h w128 _ tt))
]

pub overflow_sub-result : goal.overflow_sub-result
overflow_sub-result g c = elim (moment_sizes g.T.Potential.SQUARE g.K.Kernel.DIM c.args.self (vector_of c.args.v) g.T.Potential.zero_or_one g.met.K.Kernel.two_or_three c.requires.within c.requires.vector) [
  | inl b ↦ with_inputs (inputs b) (λ xs h x y z p q r m f. simp (c.wide_along.ensures, number xs 2, c.dot.ensures, c.SQUARE.ensures, x, y, z, p, q, r, m, f, codes) (fits xs h w128 _ tt))
  | inr b ↦ with_inputs (inputs b) (λ xs h x y z p q r m f. simp (c.wide_along.ensures, number xs 2, c.dot.ensures, c.SQUARE.ensures, x, y, z, p, q, r, m, f, codes) (fits xs h w128 _ tt))
]

pub returns : goal.returns
returns g c = elim (moment_sizes g.T.Potential.SQUARE g.K.Kernel.DIM c.args.self (vector_of c.args.v) g.T.Potential.zero_or_one g.met.K.Kernel.two_or_three c.requires.within c.requires.vector) [
  | inl b ↦ with_inputs (inputs b) (λ xs h x y z p q r m f. simp (c.wide_along.ensures, number xs 2, c.dot.ensures, c.SQUARE.ensures, x, y, z, p, q, r, m, f, codes) (computes xs h _ _ tt tt))
  | inr b ↦ with_inputs (inputs b) (λ xs h x y z p q r m f. simp (c.wide_along.ensures, number xs 2, c.dot.ensures, c.SQUARE.ensures, x, y, z, p, q, r, m, f, codes) (computes xs h _ _ tt tt))
]

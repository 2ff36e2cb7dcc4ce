use Rattle.std.proofs.Common.{ℕ, List, [], ◌∷◌, ◌^◌, ◌<◌, ◌≤◌, inl, inr, arith}
use Rattle.std.proofs.lemmas.Int.{to_z_pos}
use mir.Syntax.{w128}
use Rattle.bounds_model.specs.Space.{SpacePoint}
use Rattle.kernel_laws.proofs.Signed.{sign_by}
use Rattle.kernel_laws.proofs.SideLimits.{SideSizes, side_sizes}
use Rattle.integers.proofs.MachineArithmetic.{Given, given, with_inputs, codes, computes, fits, number}
use Rattle.kernel_laws.specs.Vectors.{vector_of, sum_of}
use Rattle.kernel_laws.proofs.signs.side.Goals as goal

-- the coordinates and the total, each with its bound
abbrev inputs : {l m t total : ℕ} {x sum : SpacePoint} → SideSizes l m t x sum total → List Given
inputs b = given b.vector.x ∷ given b.vector.y ∷ given b.vector.z ∷ given b.sum.x ∷ given b.sum.y ∷ given b.sum.z ∷ given b.total ∷ []

small_total : {l m t total : ℕ} {x sum : SpacePoint} → SideSizes l m t x sum total → t ≤ 2 ^ 92 → total < 2 ^ 127
small_total b h = let a = b.total.abs in omega arith

pub overflow_add-along : goal.overflow_add-along
overflow_add-along g c = elim (side_sizes g.K.Kernel.DIM c.args.total (vector_of c.args.x) (sum_of c.args.sum) g.met.K.Kernel.two_or_three c.requires.limit c.requires.vector c.requires.sum) [
  | inl b ↦ with_inputs (inputs b) (λ xs h d e f i j k l. simp (d, e, f, i, j, k, l, codes) (fits xs h w128 _ tt))
  | inr b ↦ with_inputs (inputs b) (λ xs h d e f i j k l. simp (d, e, f, i, j, k, l, codes) (fits xs h w128 _ tt))
]

pub overflow_mul-along-3 : goal.overflow_mul-along-3
overflow_mul-along-3 g c = elim (side_sizes g.K.Kernel.DIM c.args.total (vector_of c.args.x) (sum_of c.args.sum) g.met.K.Kernel.two_or_three c.requires.limit c.requires.vector c.requires.sum) [
  | inl b ↦ with_inputs (inputs b) (λ xs h d e f i j k l. simp (d, e, f, i, j, k, l, codes) (fits xs h w128 _ tt))
  | inr b ↦ with_inputs (inputs b) (λ xs h d e f i j k l. simp (d, e, f, i, j, k, l, codes) (fits xs h w128 _ tt))
]

pub overflow_add-along-2 : goal.overflow_add-along-2
overflow_add-along-2 g c = elim (side_sizes g.K.Kernel.DIM c.args.total (vector_of c.args.x) (sum_of c.args.sum) g.met.K.Kernel.two_or_three c.requires.limit c.requires.vector c.requires.sum) [
  | inl b ↦ with_inputs (inputs b) (λ xs h d e f i j k l. simp (d, e, f, i, j, k, l, codes) (fits xs h w128 _ tt))
  | inr b ↦ with_inputs (inputs b) (λ xs h d e f i j k l. simp (d, e, f, i, j, k, l, codes) (fits xs h w128 _ tt))
]

pub overflow_mul-along-4 : goal.overflow_mul-along-4
overflow_mul-along-4 g c = elim (side_sizes g.K.Kernel.DIM c.args.total (vector_of c.args.x) (sum_of c.args.sum) g.met.K.Kernel.two_or_three c.requires.limit c.requires.vector c.requires.sum) [
  | inl b ↦ with_inputs (inputs b) (λ xs h d e f i j k l. simp (d, e, f, i, j, k, l, number xs 2, codes) (fits xs h w128 _ tt))
  | inr b ↦ with_inputs (inputs b) (λ xs h d e f i j k l. simp (d, e, f, i, j, k, l, number xs 2, codes) (fits xs h w128 _ tt))
]

pub overflow_mul-total : goal.overflow_mul-total
overflow_mul-total g c = elim (side_sizes g.K.Kernel.DIM c.args.total (vector_of c.args.x) (sum_of c.args.sum) g.met.K.Kernel.two_or_three c.requires.limit c.requires.vector c.requires.sum) [
  | inl b ↦ simp (to_z_pos w128 c.args.total (small_total b (omega arith))) (with_inputs (inputs b) (λ xs h d e f i j k l. simp (d, e, f, i, j, k, l, c.dot.ensures, codes) (fits xs h w128 _ tt)))
  | inr b ↦ simp (to_z_pos w128 c.args.total (small_total b (omega arith))) (with_inputs (inputs b) (λ xs h d e f i j k l. simp (d, e, f, i, j, k, l, c.dot.ensures, codes) (fits xs h w128 _ tt)))
]

pub overflow_sub-along : goal.overflow_sub-along
overflow_sub-along g c = elim (side_sizes g.K.Kernel.DIM c.args.total (vector_of c.args.x) (sum_of c.args.sum) g.met.K.Kernel.two_or_three c.requires.limit c.requires.vector c.requires.sum) [
  | inl b ↦ simp (to_z_pos w128 c.args.total (small_total b (omega arith))) (with_inputs (inputs b) (λ xs h d e f i j k l. simp (d, e, f, i, j, k, l, number xs 2, c.dot.ensures, codes) (fits xs h w128 _ tt)))
  | inr b ↦ simp (to_z_pos w128 c.args.total (small_total b (omega arith))) (with_inputs (inputs b) (λ xs h d e f i j k l. simp (d, e, f, i, j, k, l, number xs 2, c.dot.ensures, codes) (fits xs h w128 _ tt)))
]

pub returns : goal.returns
returns g c = elim (side_sizes g.K.Kernel.DIM c.args.total (vector_of c.args.x) (sum_of c.args.sum) g.met.K.Kernel.two_or_three c.requires.limit c.requires.vector c.requires.sum) [
  | inl b ↦ sign_by c.sign_of_number.ensures (simp (to_z_pos w128 c.args.total (small_total b (omega arith))) (with_inputs (inputs b) (λ xs h d e f i j k l. simp (d, e, f, i, j, k, l, number xs 2, c.dot.ensures, codes) (computes xs h _ _ tt tt))))
  | inr b ↦ sign_by c.sign_of_number.ensures (simp (to_z_pos w128 c.args.total (small_total b (omega arith))) (with_inputs (inputs b) (λ xs h d e f i j k l. simp (d, e, f, i, j, k, l, number xs 2, c.dot.ensures, codes) (computes xs h _ _ tt tt))))
]

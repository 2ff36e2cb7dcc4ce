use Rattle.std.proofs.Common.{[], ◌∷◌}
use mir.Syntax.{w64}
use Rattle.integers.proofs.MachineArithmetic.{given, with_inputs, codes, computes, fits, number}
use Rattle.integers.proofs.Sizes.{size_of_flag}
use Rattle.corral.proofs.sums.Moments.narrow_slack.Goals as goal

pub overflow_mul-squared_length : goal.overflow_mul-squared_length
overflow_mul-squared_length g c = with_inputs (given c.requires.vector.x ∷ given c.requires.vector.y ∷ given c.requires.vector.z ∷ given c.requires.narrow.sum.x ∷ given c.requires.narrow.sum.y ∷ given c.requires.narrow.sum.z ∷ given c.requires.narrow.mass ∷ given (size_of_flag g.T.Potential.zero_or_one) ∷ []) (λ xs h x y z p q r m f. simp (x, y, z, p, q, r, m, f, codes) (fits xs h w64 _ tt))

pub overflow_mul-squared_length-2 : goal.overflow_mul-squared_length-2
overflow_mul-squared_length-2 g c = with_inputs (given c.requires.vector.x ∷ given c.requires.vector.y ∷ given c.requires.vector.z ∷ given c.requires.narrow.sum.x ∷ given c.requires.narrow.sum.y ∷ given c.requires.narrow.sum.z ∷ given c.requires.narrow.mass ∷ given (size_of_flag g.T.Potential.zero_or_one) ∷ []) (λ xs h x y z p q r m f. simp (x, y, z, p, q, r, m, f, codes) (fits xs h w64 _ tt))

pub overflow_add-squared_length : goal.overflow_add-squared_length
overflow_add-squared_length g c = with_inputs (given c.requires.vector.x ∷ given c.requires.vector.y ∷ given c.requires.vector.z ∷ given c.requires.narrow.sum.x ∷ given c.requires.narrow.sum.y ∷ given c.requires.narrow.sum.z ∷ given c.requires.narrow.mass ∷ given (size_of_flag g.T.Potential.zero_or_one) ∷ []) (λ xs h x y z p q r m f. simp (x, y, z, p, q, r, m, f, codes) (fits xs h w64 _ tt))

pub overflow_mul-squared_length-3 : goal.overflow_mul-squared_length-3
overflow_mul-squared_length-3 g c = with_inputs (given c.requires.vector.x ∷ given c.requires.vector.y ∷ given c.requires.vector.z ∷ given c.requires.narrow.sum.x ∷ given c.requires.narrow.sum.y ∷ given c.requires.narrow.sum.z ∷ given c.requires.narrow.mass ∷ given (size_of_flag g.T.Potential.zero_or_one) ∷ []) (λ xs h x y z p q r m f. simp (x, y, z, p, q, r, m, f, codes) (fits xs h w64 _ tt))

pub overflow_add-squared_length-2 : goal.overflow_add-squared_length-2
overflow_add-squared_length-2 g c = with_inputs (given c.requires.vector.x ∷ given c.requires.vector.y ∷ given c.requires.vector.z ∷ given c.requires.narrow.sum.x ∷ given c.requires.narrow.sum.y ∷ given c.requires.narrow.sum.z ∷ given c.requires.narrow.mass ∷ given (size_of_flag g.T.Potential.zero_or_one) ∷ []) (λ xs h x y z p q r m f. simp (x, y, z, p, q, r, m, f, codes) (fits xs h w64 _ tt))

pub overflow_mul-result : goal.overflow_mul-result
overflow_mul-result g c = with_inputs (given c.requires.vector.x ∷ given c.requires.vector.y ∷ given c.requires.vector.z ∷ given c.requires.narrow.sum.x ∷ given c.requires.narrow.sum.y ∷ given c.requires.narrow.sum.z ∷ given c.requires.narrow.mass ∷ given (size_of_flag g.T.Potential.zero_or_one) ∷ []) (λ xs h x y z p q r m f. simp (c.narrow_along.ensures.value, number xs 2, x, y, z, p, q, r, m, f, codes) (fits xs h w64 _ tt))

pub overflow_mul-result-2 : goal.overflow_mul-result-2
overflow_mul-result-2 g c = with_inputs (given c.requires.vector.x ∷ given c.requires.vector.y ∷ given c.requires.vector.z ∷ given c.requires.narrow.sum.x ∷ given c.requires.narrow.sum.y ∷ given c.requires.narrow.sum.z ∷ given c.requires.narrow.mass ∷ given (size_of_flag g.T.Potential.zero_or_one) ∷ []) (λ xs h x y z p q r m f. simp (x, y, z, p, q, r, m, f, codes) (fits xs h w64 _ tt))

pub overflow_mul-result-3 : goal.overflow_mul-result-3
overflow_mul-result-3 g c = with_inputs (given c.requires.vector.x ∷ given c.requires.vector.y ∷ given c.requires.vector.z ∷ given c.requires.narrow.sum.x ∷ given c.requires.narrow.sum.y ∷ given c.requires.narrow.sum.z ∷ given c.requires.narrow.mass ∷ given (size_of_flag g.T.Potential.zero_or_one) ∷ []) (λ xs h x y z p q r m f. simp (c.SQUARE.ensures, x, y, z, p, q, r, m, f, codes) (fits xs h w64 _ tt))

pub overflow_sub-result : goal.overflow_sub-result
overflow_sub-result g c = with_inputs (given c.requires.vector.x ∷ given c.requires.vector.y ∷ given c.requires.vector.z ∷ given c.requires.narrow.sum.x ∷ given c.requires.narrow.sum.y ∷ given c.requires.narrow.sum.z ∷ given c.requires.narrow.mass ∷ given (size_of_flag g.T.Potential.zero_or_one) ∷ []) (λ xs h x y z p q r m f. simp (c.narrow_along.ensures.value, number xs 2, c.SQUARE.ensures, x, y, z, p, q, r, m, f, codes) (fits xs h w64 _ tt))

pub returns : goal.returns
returns g c = with_inputs (given c.requires.vector.x ∷ given c.requires.vector.y ∷ given c.requires.vector.z ∷ given c.requires.narrow.sum.x ∷ given c.requires.narrow.sum.y ∷ given c.requires.narrow.sum.z ∷ given c.requires.narrow.mass ∷ given (size_of_flag g.T.Potential.zero_or_one) ∷ []) (λ xs h x y z p q r m f. simp (c.narrow_along.ensures.value, number xs 2, c.SQUARE.ensures, x, y, z, p, q, r, m, f, codes) (computes xs h _ _ tt tt))

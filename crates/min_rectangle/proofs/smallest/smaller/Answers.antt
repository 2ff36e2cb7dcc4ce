use Rattle.std.proofs.Common.{[], ◌∷◌, ◌^◌}
use mir.Syntax.{w128}
use Rattle.integers.proofs.UnsignedArithmetic.{limited, with_limited, amounts, amount_fits}
use Rattle.min_rectangle.proofs.smallest.smaller.Goals as goal

pub overflow_mul-p : goal.overflow_mul-p
overflow_mul-p c = with_limited (limited _ (2 ^ 77) c.requires.a_product ∷ limited _ _ c.requires.b_length ∷ []) (λ xs h a b. simp (a, b, amounts) (amount_fits xs h w128 _ tt))

pub overflow_mul-q : goal.overflow_mul-q
overflow_mul-q c = with_limited (limited _ (2 ^ 77) c.requires.b_product ∷ limited _ _ c.requires.a_length ∷ []) (λ xs h a b. simp (a, b, amounts) (amount_fits xs h w128 _ tt))

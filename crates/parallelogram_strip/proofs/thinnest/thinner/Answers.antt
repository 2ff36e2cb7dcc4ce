use Rattle.std.proofs.Common.{[], ◌∷◌}
use mir.Syntax.{w128}
use Rattle.integers.proofs.UnsignedArithmetic.{limited, with_limited, amounts, amount_fits}
use Rattle.parallelogram_strip.proofs.thinnest.thinner.Goals as goal

pub overflow_mul-p : goal.overflow_mul-p
overflow_mul-p c = with_limited (limited _ _ c.requires.a_reach ∷ []) (λ xs h a. simp (a, amounts) (amount_fits xs h w128 _ tt))

pub overflow_mul-p-2 : goal.overflow_mul-p-2
overflow_mul-p-2 c = with_limited (limited _ _ c.requires.a_reach ∷ limited _ _ c.requires.b_length ∷ []) (λ xs h a b. simp (a, b, amounts) (amount_fits xs h w128 _ tt))

pub overflow_mul-q : goal.overflow_mul-q
overflow_mul-q c = with_limited (limited _ _ c.requires.b_reach ∷ []) (λ xs h a. simp (a, amounts) (amount_fits xs h w128 _ tt))

pub overflow_mul-q-2 : goal.overflow_mul-q-2
overflow_mul-q-2 c = with_limited (limited _ _ c.requires.b_reach ∷ limited _ _ c.requires.a_length ∷ []) (λ xs h a b. simp (a, b, amounts) (amount_fits xs h w128 _ tt))

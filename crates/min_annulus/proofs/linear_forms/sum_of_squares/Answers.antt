use Rattle.std.proofs.Common.{ℤ, ◌+ℤ◌, ◌*ℤ◌, [], ◌∷◌}
use mir.Syntax.{w128}
use Rattle.integers.proofs.Sizes.{size_add, size_mul, size_more}
use Rattle.integers.proofs.Order.{nonneg_add, square_nonneg}
use Rattle.integers.proofs.MachineArithmetic.{given, with_inputs, codes, computes, fits}
use Rattle.min_annulus.proofs.MachineNumbers.{cast_fits, cast_value, cast_limit, back64, back128}
use Rattle.min_annulus.proofs.linear_forms.sum_of_squares.Goals as goal

-- as the machine computes it
abbrev machine : ℤ → ℤ → ℤ
machine x y = back128 (back128 (back128 (back64 x) *ℤ back128 (back64 x)) +ℤ back128 (back128 (back64 y) *ℤ back128 (back64 y)))

pub overflow_add-result : goal.overflow_add-result
overflow_add-result c = with_inputs (given c.requires.x ∷ given c.requires.y ∷ []) (λ xs h p q. simp (p, q, codes) (fits xs h w128 _ tt))

pub overflow_cast-result-5 : goal.overflow_cast-result-5
overflow_cast-result-5 c = cast_fits (c.args.x *ℤ c.args.x +ℤ c.args.y *ℤ c.args.y) (with_inputs (given c.requires.x ∷ given c.requires.y ∷ []) (λ xs h p q. simp (p, q, codes) (computes xs h _ _ tt tt))) (nonneg_add (square_nonneg c.args.x) (square_nonneg c.args.y)) (size_more (size_add (size_mul c.requires.x c.requires.x) (size_mul c.requires.y c.requires.y)) tt)

pub returns-clause-value : goal.returns-clause-value
returns-clause-value c = cast_value (machine c.args.x c.args.y) (c.args.x *ℤ c.args.x +ℤ c.args.y *ℤ c.args.y) (with_inputs (given c.requires.x ∷ given c.requires.y ∷ []) (λ xs h p q. simp (p, q, codes) (computes xs h _ _ tt tt))) (nonneg_add (square_nonneg c.args.x) (square_nonneg c.args.y))

pub returns-clause-limit : goal.returns-clause-limit
returns-clause-limit c = cast_limit (machine c.args.x c.args.y) (c.args.x *ℤ c.args.x +ℤ c.args.y *ℤ c.args.y) (with_inputs (given c.requires.x ∷ given c.requires.y ∷ []) (λ xs h p q. simp (p, q, codes) (computes xs h _ _ tt tt))) (size_more (size_add (size_mul c.requires.x c.requires.x) (size_mul c.requires.y c.requires.y)) tt)

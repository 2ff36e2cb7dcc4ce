use Rattle.std.proofs.Common.{ℕ, ◌≤◌, ◌<◌, ◌^◌, ℤ, [], ◌∷◌, arith}
use Rattle.std.proofs.lemmas.Int.{to_z_pos}
use mir.Syntax.{w128}
use Rattle.integers.specs.Size.{Size}
use Rattle.integers.proofs.Sizes.{size_unsigned, below_size, above_size}
use Rattle.integers.proofs.MachineArithmetic.{given, with_inputs, codes, size_within}
use Rattle.bounds_model.specs.Ranges.{IsNumber}
use Rattle.ball_sums.proofs.ball.mean.Goals as goal

number : {z : ℤ} → Size (2 ^ 126) z → IsNumber z
number h = record { low = above_size h; high = below_size h }

below : {n : ℕ} → n ≤ 2 ^ 92 → n < 2 ^ 127
below h = omega arith

pub returns-clause-number : goal.returns-clause-number
returns-clause-number c =
    simp (to_z_pos w128 c.args.weight (below c.requires.weight))
    (with_inputs (given (size_unsigned c.args.weight c.requires.weight) ∷ given c.requires.from ∷ given c.requires.pull ∷ []) (λ xs h a b e. simp (a, b, e, codes) (number (size_within xs h _ tt))))

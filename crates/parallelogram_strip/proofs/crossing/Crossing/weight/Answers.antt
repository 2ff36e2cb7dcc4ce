use Rattle.std.proofs.Common.{refl, ◌≤◌, ◌^◌, [], ◌∷◌, arith}
use Rattle.std.proofs.lemmas.Int.{ints}
use mir.Syntax.{w128}
use Rattle.integers.proofs.UnsignedArithmetic.{limited, with_limited, amounts, amount_fits}
use Rattle.parallelogram_strip.proofs.crossing.Crossing.weight.Goals as goal

pub overflow_add-result : goal.overflow_add-result
overflow_add-result c =
    let beta : c.args.self.now.chord.beta ≤ 2 ^ 39 = omega (arith, ints) in
    let gamma : c.args.self.now.chord.gamma ≤ 2 ^ 39 = omega (arith, ints) in
    with_limited (limited _ _ beta ∷ limited _ _ gamma ∷ []) (λ xs h a b. simp (a, b, amounts) (amount_fits xs h w128 _ tt))

pub returns : goal.returns
returns c = record { value = refl; limit = omega (arith, ints) }

-- How many nodes a tree has: a pass over the points for each.
use Rattle.std.proofs.Common.{◌≡◌, ◌≢◌, refl, ap, ℕ, zero, suc, ◌+◌, ◌-◌, ◌*◌, ◌≤◌, arith}
use Rattle.corner_squares.specs.Trees.{nodes}

pub nodes_are : (depth : ℕ) → depth ≢ 0 → nodes depth ≡ 1 + 4 * nodes (depth - 1)
nodes_are zero some = absurd (some refl)
nodes_are (suc depth) some = ap (λ d. 1 + 4 * nodes d) one_less
  where
    one_less : depth ≡ suc depth - 1
    one_less = omega arith

pub some_nodes : (depth : ℕ) → 1 ≤ nodes depth
some_nodes zero = omega arith
some_nodes (suc depth) = omega arith

use Rattle.std.proofs.Common.{refl, sym, subst, ap₂, ◌∙◌, ℕ, ◌+◌, ◌*◌, List, ℤ, pos, ◌+ℤ◌, ◌-ℤ◌, ◌*ℤ◌, SFits, to_z-of_z, [], ◌∷◌, rules, arith}
use mir.Syntax.{w128}
use Rattle.integers.specs.Size.{Size}
use Rattle.integers.proofs.Sizes.{wrap_is}
use Rattle.integers.proofs.MachineArithmetic.{Given, given, with_inputs, codes, computes}
use Rattle.ring_check.specs.Rings.{square_limit, pair_limit}
use Rattle.ring_check.proofs.RingNumbers.{square_size, squares_apart, coordinates_apart, sum_size}
use Rattle.ring_check.proofs.pairs.PairSums.with.Goals as goal

-- two numbers, each with its bound
abbrev two : {n : ℕ} {p q : ℤ} → Size n p → Size n q → List Given
two p q = given p ∷ given q ∷ []

pub plus-requires-4-clause-difference : goal.plus-requires-4-clause-difference
plus-requires-4-clause-difference c =
    subst (Size square_limit)
    (sym (with_inputs (two (square_size c.squared_length.ensures.low c.squared_length.ensures.high) (square_size c.squared_length-2.ensures.low c.squared_length-2.ensures.high))
    (λ xs h p q. simp (p, q, codes) (computes xs h _ _ tt tt))))
    (squares_apart c.squared_length.ensures.low c.squared_length.ensures.high c.squared_length-2.ensures.low c.squared_length-2.ensures.high)

pub returns-clause-adds : goal.returns-clause-adds
returns-clause-adds c =
    let fits_x : SFits w128 c.plus.result = search rules in
    let fits_y : SFits w128 c.plus-2.result = search rules in
    let fits_z : SFits w128 c.plus-3.result = search rules in
    let fits_l : SFits w128 c.plus-4.result = search rules in
    let w = c.args.weight in
    record {
      weight = refl;
      x = to_z-of_z fits_x ∙ c.plus.ensures ∙ ap₂ (λ s d. s +ℤ pos w *ℤ d) (wrap_is c.requires.size.x tt)
          (with_inputs (two c.requires.first.x c.requires.second.x) (λ xs h p q. simp (p, q, codes) (computes xs h _ _ tt tt)));
      y = to_z-of_z fits_y ∙ c.plus-2.ensures ∙ ap₂ (λ s d. s +ℤ pos w *ℤ d) (wrap_is c.requires.size.y tt)
          (with_inputs (two c.requires.first.y c.requires.second.y) (λ xs h p q. simp (p, q, codes) (computes xs h _ _ tt tt)));
      z = to_z-of_z fits_z ∙ c.plus-3.ensures ∙ ap₂ (λ s d. s +ℤ pos w *ℤ d) (wrap_is c.requires.size.z tt)
          (with_inputs (two c.requires.first.z c.requires.second.z) (λ xs h p q. simp (p, q, codes) (computes xs h _ _ tt tt)));
      squared_length = to_z-of_z fits_l ∙ c.plus-4.ensures ∙ ap₂ (λ s d. s +ℤ pos w *ℤ d) (wrap_is c.requires.size.squared_length tt)
          (with_inputs (two (square_size c.squared_length.ensures.low c.squared_length.ensures.high) (square_size c.squared_length-2.ensures.low c.squared_length-2.ensures.high))
          (λ xs h p q. simp (p, q, codes) (computes xs h _ _ tt tt)) ∙ ap₂ (λ a b. a -ℤ b) c.squared_length.ensures.value c.squared_length-2.ensures.value);
    }

pub returns-clause-size : goal.returns-clause-size
returns-clause-size c count small =
    let adds = returns-clause-adds c in
    let w = c.args.weight in
    let p = c.requires.first in
    let q = c.requires.second in
    record {
      weight = let a = small.weight in let b = c.requires.weight in omega arith;
      x = subst (Size ((count + 1) * pair_limit)) (sym adds.x) (sum_size count w small.x c.requires.weight (coordinates_apart p.x q.x));
      y = subst (Size ((count + 1) * pair_limit)) (sym adds.y) (sum_size count w small.y c.requires.weight (coordinates_apart p.y q.y));
      z = subst (Size ((count + 1) * pair_limit)) (sym adds.z) (sum_size count w small.z c.requires.weight (coordinates_apart p.z q.z));
      squared_length = subst (Size ((count + 1) * pair_limit)) (sym adds.squared_length)
          (sum_size count w small.squared_length c.requires.weight (subst (Size square_limit) (ap₂ (λ a b. a -ℤ b) c.squared_length.ensures.value c.squared_length-2.ensures.value)
          (squares_apart c.squared_length.ensures.low c.squared_length.ensures.high c.squared_length-2.ensures.low c.squared_length-2.ensures.high)));
    }

use Rattle.std.proofs.Common.{sym, ◌∙◌, ap₂, subst, ℤ, pos, ◌≤ℤ◌, ◌-ℤ◌, arith, [], ◌∷◌}
use Rattle.std.proofs.lemmas.Int.{ints}
use Rattle.integers.specs.Size.{Size}
use Rattle.integers.proofs.MachineArithmetic.{given, with_inputs, codes, computes, size_within}
use Rattle.min_annulus.proofs.MachineNumbers.{near}
use Rattle.min_annulus.proofs.SameRecords.{same_difference}
use Rattle.min_annulus.proofs.difference_vectors.DifferenceVector.between.Goals as goal

-- a number from 0 to 80000000000
range : {z : ℤ} → pos 0 ≤ℤ z → z ≤ℤ pos 80000000000 → Size 80000000000 z
range h k = record { abs = omega (arith, ints) }

-- and the difference of two
difference : {y z : ℤ} → pos 0 ≤ℤ y → y ≤ℤ pos 80000000000 → pos 0 ≤ℤ z → z ≤ℤ pos 80000000000 → Size 80000000000 (y -ℤ z)
difference h k l m = record { abs = omega (arith, ints) }

pub returns-clause-value : goal.returns-clause-value
returns-clause-value c =
    same_difference
    (with_inputs (given (near c.x.ensures.value c.x.ensures.bounds) ∷ given (near c.x-2.ensures.value c.x-2.ensures.bounds) ∷ []) (λ xs h p q. simp (p, q, c.x.ensures.value, c.x-2.ensures.value, codes) (computes xs h _ _ tt tt)))
    (with_inputs (given (near c.y.ensures.value c.y.ensures.bounds) ∷ given (near c.y-2.ensures.value c.y-2.ensures.bounds) ∷ []) (λ xs h p q. simp (p, q, c.y.ensures.value, c.y-2.ensures.value, codes) (computes xs h _ _ tt tt)))
    (with_inputs (given (range c.squared_length.ensures.low c.squared_length.ensures.high) ∷ given (range c.squared_length-2.ensures.low c.squared_length-2.ensures.high) ∷ []) (λ xs h p q. simp (p, q, codes) (computes xs h _ _ tt tt))
    ∙ ap₂ (λ y z. y -ℤ z) c.squared_length.ensures.value c.squared_length-2.ensures.value)

pub returns-clause-within : goal.returns-clause-within
returns-clause-within c = record {
  x = with_inputs (given (near c.x.ensures.value c.x.ensures.bounds) ∷ given (near c.x-2.ensures.value c.x-2.ensures.bounds) ∷ []) (λ xs h p q. simp (p, q, c.x.ensures.value, c.x-2.ensures.value, codes) (size_within xs h _ tt));
  y = with_inputs (given (near c.y.ensures.value c.y.ensures.bounds) ∷ given (near c.y-2.ensures.value c.y-2.ensures.bounds) ∷ []) (λ xs h p q. simp (p, q, c.y.ensures.value, c.y-2.ensures.value, codes) (size_within xs h _ tt));
  lift = subst (Size 80000000000) (sym (with_inputs (given (range c.squared_length.ensures.low c.squared_length.ensures.high) ∷ given (range c.squared_length-2.ensures.low c.squared_length-2.ensures.high) ∷ []) (λ xs h p q. simp (p, q, codes) (computes xs h _ _ tt tt)))) (difference c.squared_length.ensures.low c.squared_length.ensures.high c.squared_length-2.ensures.low c.squared_length-2.ensures.high);
}

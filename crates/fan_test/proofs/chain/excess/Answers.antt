use Rattle.std.proofs.Common.{◌≡◌, refl, ◌∙◌, ap₂, ◌^◌, ℤ, ◌-ℤ◌, [], ◌∷◌, w64, to_z, of_z}
use Rattle.std.specs.Int.{int_max}
use Rattle.integers.proofs.MachineArithmetic.{given, with_inputs, codes, computes}
use Rattle.integers.proofs.Sizes.{size_between}
use Rattle.bounds_model.specs.Numbers.{IsWithin}
use Rattle.fan_test.proofs.Comparisons.{kept, greater_at_most_zero, both_parts, at_most_zero}
use Rattle.fan_test.proofs.chain.excess.Goals as goal

-- the difference of two numbers that are not too great
difference : {x y : ℤ} → IsWithin (2 ^ 38) x → IsWithin (2 ^ 38) y → to_z w64 (of_z w64 (to_z w64 (of_z w64 x) -ℤ to_z w64 (of_z w64 y))) ≡ x -ℤ y
difference h k = with_inputs (given (size_between h.low h.high) ∷ given (size_between k.low k.high) ∷ []) (λ xs h a b. simp (a, b, codes) (computes xs h _ _ tt tt))

pub returns : goal.returns
returns c =
    let p = c.args.p in
    let q = c.args.q in
    both_parts
    (greater_at_most_zero _ (p.first -ℤ q.first) (p.last -ℤ q.last)
    (kept c.max.type_inv (c.max.ensures.value ∙ ap₂ int_max (difference c.requires.p_first c.requires.q_first) (difference c.requires.p_last c.requires.q_last))))
    (at_most_zero (p.first -ℤ q.first) p.first q.first refl refl refl)
    (at_most_zero (p.last -ℤ q.last) p.last q.last refl refl refl)

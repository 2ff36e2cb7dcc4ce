use Rattle.std.proofs.Common.{◌≡◌, ap₂, ◌∙◌, ℤ, ◌-ℤ◌, [], ◌∷◌, to_z, of_z, w32, w64}
use Rattle.bounds_model.specs.Numbers.{IsWithin}
use Rattle.integers.proofs.MachineArithmetic.{given, with_inputs, codes, computes}
use Rattle.directions.proofs.Bounds.{size_in}
use Rattle.hull_test.proofs.chain.outwards.Goals as goal

-- the difference of two coordinates that are read
read_less : {a b x y : ℤ} → IsWithin 200000 a → IsWithin 200000 b → a ≡ x → b ≡ y
    → to_z w64 (of_z w64 (to_z w64 (of_z w64 (to_z w32 (of_z w32 a))) -ℤ to_z w64 (of_z w64 (to_z w32 (of_z w32 b))))) ≡ x -ℤ y
read_less a_in b_in e f =
    with_inputs (given (size_in a_in) ∷ given (size_in b_in) ∷ []) (λ xs h a b. simp (a, b, codes) (computes xs h _ _ tt tt)) ∙ ap₂ (λ u v. u -ℤ v) e f

pub returns-clause-value : goal.returns-clause-value
returns-clause-value c = λ i. record {
  x = read_less c.y.ensures.bounds c.y-2.ensures.bounds c.y.ensures.value c.y-2.ensures.value i;
  y = read_less c.x.ensures.bounds c.x-2.ensures.bounds c.x.ensures.value c.x-2.ensures.value i;
}

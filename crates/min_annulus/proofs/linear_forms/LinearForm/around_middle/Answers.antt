use Rattle.std.proofs.Common.{refl, [], ◌∷◌}
use Rattle.integers.proofs.MachineArithmetic.{given, with_inputs, codes, computes}
use Rattle.min_annulus.proofs.MachineNumbers.{near}
use Rattle.min_annulus.proofs.SameRecords.{same_form}
use Rattle.min_annulus.proofs.linear_forms.LinearForm.around_middle.Goals as goal

pub returns-clause-value : goal.returns-clause-value
returns-clause-value c =
    same_form
    (with_inputs (given (near c.x.ensures.value c.x.ensures.bounds) ∷ given (near c.x-2.ensures.value c.x-2.ensures.bounds) ∷ []) (λ xs h p q. simp (p, q, c.x.ensures.value, c.x-2.ensures.value, codes) (computes xs h _ _ tt tt)))
    (with_inputs (given (near c.y.ensures.value c.y.ensures.bounds) ∷ given (near c.y-2.ensures.value c.y-2.ensures.bounds) ∷ []) (λ xs h p q. simp (p, q, c.y.ensures.value, c.y-2.ensures.value, codes) (computes xs h _ _ tt tt)))
    refl

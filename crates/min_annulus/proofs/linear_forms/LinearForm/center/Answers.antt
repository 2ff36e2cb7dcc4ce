use Rattle.std.proofs.Common.{[], ◌∷◌}
use Rattle.integers.proofs.MachineArithmetic.{given, with_inputs, codes, computes, number}
use Rattle.min_annulus.proofs.SameRecords.{same_place}
use Rattle.min_annulus.proofs.linear_forms.LinearForm.center.Goals as goal

pub returns-clause-place : goal.returns-clause-place
returns-clause-place c =
    same_place c.new.ensures.place
    (with_inputs (given c.requires.form.x ∷ []) (λ xs h p. simp (p, codes) (computes xs h _ _ tt tt)))
    (with_inputs (given c.requires.form.y ∷ []) (λ xs h p. simp (p, codes) (computes xs h _ _ tt tt)))
    (with_inputs (given c.requires.form.w ∷ []) (λ xs h p. simp (p, number xs 2, codes) (computes xs h _ _ tt tt)))

use Rattle.std.proofs.Common.{[], ◌∷◌, List}
use mir.Syntax.{w128}
use Rattle.min_annulus.specs.declared.difference_vectors.DifferenceVector.{DifferenceVector}
use Rattle.min_annulus.specs.declared.linear_forms.LinearForm.{LinearForm}
use Rattle.min_annulus.specs.DifferenceVectors.{IsDifference}
use Rattle.min_annulus.specs.LinearForms.{IsLinearForm}
use Rattle.integers.proofs.MachineArithmetic.{Given, given, with_inputs, codes, computes, fits}
use Rattle.min_annulus.proofs.linear_forms.LinearForm.over.Goals as goal

-- the numbers of the form and of the difference, each with its bound
abbrev inputs : {f : LinearForm} {d : DifferenceVector} → IsLinearForm f → IsDifference d → List Given
inputs f d = given f.x ∷ given f.y ∷ given f.w ∷ given d.x ∷ given d.y ∷ given d.lift ∷ []

pub overflow_add-result : goal.overflow_add-result
overflow_add-result c = with_inputs (inputs c.requires.form c.requires.difference) (λ xs h p q r s t u. simp (p, q, r, s, t, u, codes) (fits xs h w128 _ tt))

pub overflow_sub-result : goal.overflow_sub-result
overflow_sub-result c = with_inputs (inputs c.requires.form c.requires.difference) (λ xs h p q r s t u. simp (p, q, r, s, t, u, codes) (fits xs h w128 _ tt))

pub returns : goal.returns
returns c = with_inputs (inputs c.requires.form c.requires.difference) (λ xs h p q r s t u. simp (p, q, r, s, t, u, codes) (computes xs h _ _ tt tt))

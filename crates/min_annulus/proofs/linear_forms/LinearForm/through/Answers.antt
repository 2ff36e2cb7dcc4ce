use Rattle.std.proofs.Common.{[], ◌∷◌, List}
use mir.Syntax.{w64}
use Rattle.min_annulus.specs.declared.difference_vectors.DifferenceVector.{DifferenceVector}
use Rattle.min_annulus.specs.DifferenceVectors.{IsDifference}
use Rattle.integers.proofs.MachineArithmetic.{Given, given, with_inputs, codes, computes, fits, size_within}
use Rattle.min_annulus.proofs.SameRecords.{same_form}
use Rattle.min_annulus.proofs.linear_forms.LinearForm.through.Goals as goal

-- the numbers of the differences, each with its bound
abbrev inputs : {a b c : DifferenceVector} → IsDifference a → IsDifference b → IsDifference c → List Given
inputs a b c = given a.x ∷ given a.y ∷ given a.lift ∷ given b.x ∷ given b.y ∷ given b.lift ∷ given c.x ∷ given c.y ∷ given c.lift ∷ []

pub overflow_mul-result : goal.overflow_mul-result
overflow_mul-result c = with_inputs (inputs c.requires.a c.requires.b c.requires.c) (λ xs h p q r s t u v w z. simp (p, q, r, s, t, u, v, w, z, codes) (fits xs h w64 _ tt))

pub overflow_mul-result-2 : goal.overflow_mul-result-2
overflow_mul-result-2 c = with_inputs (inputs c.requires.a c.requires.b c.requires.c) (λ xs h p q r s t u v w z. simp (p, q, r, s, t, u, v, w, z, codes) (fits xs h w64 _ tt))

pub overflow_sub-result : goal.overflow_sub-result
overflow_sub-result c = with_inputs (inputs c.requires.a c.requires.b c.requires.c) (λ xs h p q r s t u v w z. simp (p, q, r, s, t, u, v, w, z, codes) (fits xs h w64 _ tt))

pub overflow_mul-result-3 : goal.overflow_mul-result-3
overflow_mul-result-3 c = with_inputs (inputs c.requires.a c.requires.b c.requires.c) (λ xs h p q r s t u v w z. simp (p, q, r, s, t, u, v, w, z, codes) (fits xs h w64 _ tt))

pub overflow_mul-result-4 : goal.overflow_mul-result-4
overflow_mul-result-4 c = with_inputs (inputs c.requires.a c.requires.b c.requires.c) (λ xs h p q r s t u v w z. simp (p, q, r, s, t, u, v, w, z, codes) (fits xs h w64 _ tt))

pub overflow_sub-result-2 : goal.overflow_sub-result-2
overflow_sub-result-2 c = with_inputs (inputs c.requires.a c.requires.b c.requires.c) (λ xs h p q r s t u v w z. simp (p, q, r, s, t, u, v, w, z, codes) (fits xs h w64 _ tt))

pub overflow_mul-result-5 : goal.overflow_mul-result-5
overflow_mul-result-5 c = with_inputs (inputs c.requires.a c.requires.b c.requires.c) (λ xs h p q r s t u v w z. simp (p, q, r, s, t, u, v, w, z, codes) (fits xs h w64 _ tt))

pub overflow_mul-result-6 : goal.overflow_mul-result-6
overflow_mul-result-6 c = with_inputs (inputs c.requires.a c.requires.b c.requires.c) (λ xs h p q r s t u v w z. simp (p, q, r, s, t, u, v, w, z, codes) (fits xs h w64 _ tt))

pub overflow_sub-result-3 : goal.overflow_sub-result-3
overflow_sub-result-3 c = with_inputs (inputs c.requires.a c.requires.b c.requires.c) (λ xs h p q r s t u v w z. simp (p, q, r, s, t, u, v, w, z, codes) (fits xs h w64 _ tt))

pub returns-clause-value : goal.returns-clause-value
returns-clause-value c =
    same_form
    (with_inputs (inputs c.requires.a c.requires.b c.requires.c) (λ xs h p q r s t u v w z. simp (p, q, r, s, t, u, v, w, z, codes) (computes xs h _ _ tt tt)))
    (with_inputs (inputs c.requires.a c.requires.b c.requires.c) (λ xs h p q r s t u v w z. simp (p, q, r, s, t, u, v, w, z, codes) (computes xs h _ _ tt tt)))
    (with_inputs (inputs c.requires.a c.requires.b c.requires.c) (λ xs h p q r s t u v w z. simp (p, q, r, s, t, u, v, w, z, codes) (computes xs h _ _ tt tt)))

pub returns-clause-form : goal.returns-clause-form
returns-clause-form c = record {
  x = with_inputs (inputs c.requires.a c.requires.b c.requires.c) (λ xs h p q r s t u v w z. simp (p, q, r, s, t, u, v, w, z, codes) (size_within xs h _ tt));
  y = with_inputs (inputs c.requires.a c.requires.b c.requires.c) (λ xs h p q r s t u v w z. simp (p, q, r, s, t, u, v, w, z, codes) (size_within xs h _ tt));
  w = with_inputs (inputs c.requires.a c.requires.b c.requires.c) (λ xs h p q r s t u v w z. simp (p, q, r, s, t, u, v, w, z, codes) (size_within xs h _ tt));
}

-- LinearForms and differences by their numbers.
use Rattle.std.proofs.Common.{◌≡◌, ap, ap₂, ◌∙◌, subst, ℤ}
use Rattle.bounds_model.specs.Plane.{PlaneRatio}
use Rattle.bounds_model.specs.Space.{SamePlace, flat_ratio}
use Rattle.bounds_model.specs.Fractions.{Fraction, SameValue}
use Rattle.min_annulus.specs.declared.linear_forms.LinearForm.{LinearForm}
use Rattle.min_annulus.specs.declared.difference_vectors.DifferenceVector.{DifferenceVector}

-- forms with the same numbers are the same
pub same_form : {a b c d e f : ℤ} → a ≡ d → b ≡ e → c ≡ f → (let p : LinearForm = record { x = a; y = b; w = c } in p) ≡ (let q : LinearForm = record { x = d; y = e; w = f } in q)
same_form {a} {b} {c} {d} {e} {f} h k l =
    let first : (let p : LinearForm = record { x = a; y = b; w = c } in p) ≡ (let q : LinearForm = record { x = d; y = b; w = c } in q) = ap (λ v. record { x = v; y = b; w = c }) h in
    first ∙ ap₂ (λ v w. record { x = d; y = v; w = w }) k l

-- differences with the same numbers are the same
pub same_difference : {a b c d e f : ℤ} → a ≡ d → b ≡ e → c ≡ f → (let p : DifferenceVector = record { x = a; y = b; lift = c } in p) ≡ (let q : DifferenceVector = record { x = d; y = e; lift = f } in q)
same_difference {a} {b} {c} {d} {e} {f} h k l =
    let first : (let p : DifferenceVector = record { x = a; y = b; lift = c } in p) ≡ (let q : DifferenceVector = record { x = d; y = b; lift = c } in q) = ap (λ v. record { x = v; y = b; lift = c }) h in
    first ∙ ap₂ (λ v w. record { x = d; y = v; lift = w }) k l

-- a place by other forms of its numbers
pub same_place : {c : PlaneRatio} {x y w a b d : ℤ} → SamePlace (flat_ratio c) (flat_ratio (record { x = x; y = y; w = w })) → x ≡ a → y ≡ b → w ≡ d → SamePlace (flat_ratio c) (flat_ratio (record { x = a; y = b; w = d }))
same_place {c} {x} {y} {w} {a} {b} {d} h ex ey ew =
    subst (λ z. SamePlace (flat_ratio c) (flat_ratio (record { x = a; y = b; w = z }))) ew
    (subst (λ z. SamePlace (flat_ratio c) (flat_ratio (record { x = a; y = z; w = w }))) ey
    (subst (λ z. SamePlace (flat_ratio c) (flat_ratio (record { x = z; y = y; w = w }))) ex h))

-- a fraction by other forms of its numbers
pub same_fraction : (r v : Fraction) (n d : ℤ) → SameValue r (record { n = n; d = d }) → n ≡ v.n → d ≡ v.d → SameValue r v
same_fraction r v n d h en ed =
    subst (λ z. SameValue r (record { n = v.n; d = z })) ed (subst (λ z. SameValue r (record { n = z; d = d })) en h)

use Rattle.std.proofs.Common.{◌≡◌, ◌∙◌, ℕ, ◌<◌, ℤ, pos, ◌*ℤ◌, ◌<ℤ◌, ◌≤ℤ◌, arith, [], ◌∷◌}
use Rattle.std.proofs.lemmas.Int.{ints}
use mir.Syntax.{w64}
use Rattle.integers.proofs.Order.{positive_mul}
use Rattle.integers.proofs.MachineArithmetic.{given, with_inputs, codes, computes, fits, size_within, number}
use Rattle.min_annulus.proofs.MachineNumbers.{near}
use Rattle.min_annulus.proofs.SameRecords.{same_fraction}
use Rattle.min_annulus.specs.LinearForms.{squared_radius_of}
use Rattle.min_annulus.proofs.linear_forms.LinearForm.squared_radius.Goals as goal

positive : {n : ℕ} {v : ℤ} → pos n ≡ v → pos 0 <ℤ v → 0 < n
positive e h = omega (arith, ints)

twice : {w : ℤ} → pos 1 ≤ℤ w → pos 0 <ℤ (pos 2 *ℤ w)
twice h = omega (arith, ints)

pub overflow_sub-x : goal.overflow_sub-x
overflow_sub-x c = with_inputs (given c.requires.form.x ∷ given c.requires.form.w ∷ given (near c.x.ensures.value c.x.ensures.bounds) ∷ []) (λ xs h p q r. simp (p, q, r, c.x.ensures.value, number xs 2, codes) (fits xs h w64 _ tt))

pub overflow_mul-y : goal.overflow_mul-y
overflow_mul-y c = with_inputs (given c.requires.form.y ∷ given c.requires.form.w ∷ given (near c.y.ensures.value c.y.ensures.bounds) ∷ []) (λ xs h p q r. simp (p, q, r, c.y.ensures.value, number xs 2, codes) (fits xs h w64 _ tt))

pub overflow_sub-y : goal.overflow_sub-y
overflow_sub-y c = with_inputs (given c.requires.form.y ∷ given c.requires.form.w ∷ given (near c.y.ensures.value c.y.ensures.bounds) ∷ []) (λ xs h p q r. simp (p, q, r, c.y.ensures.value, number xs 2, codes) (fits xs h w64 _ tt))

pub sum_of_squares-requires-clause-x : goal.sum_of_squares-requires-clause-x
sum_of_squares-requires-clause-x c = with_inputs (given c.requires.form.x ∷ given c.requires.form.w ∷ given (near c.x.ensures.value c.x.ensures.bounds) ∷ []) (λ xs h p q r. simp (p, q, r, c.x.ensures.value, number xs 2, codes) (size_within xs h _ tt))

pub sum_of_squares-requires-clause-y : goal.sum_of_squares-requires-clause-y
sum_of_squares-requires-clause-y c = with_inputs (given c.requires.form.y ∷ given c.requires.form.w ∷ given (near c.y.ensures.value c.y.ensures.bounds) ∷ []) (λ xs h p q r. simp (p, q, r, c.y.ensures.value, number xs 2, codes) (size_within xs h _ tt))

pub sum_of_squares-requires-2-clause-x : goal.sum_of_squares-requires-2-clause-x
sum_of_squares-requires-2-clause-x c = with_inputs (given c.requires.form.w ∷ []) (λ xs h p. simp (p, number xs 2, codes) (size_within xs h _ tt))

pub new-requires-clause-some : goal.new-requires-clause-some
new-requires-clause-some c =
    let denominator : pos c.sum_of_squares-2.result ≡ (pos 2 *ℤ c.args.self.w) *ℤ (pos 2 *ℤ c.args.self.w) = c.sum_of_squares-2.ensures.value ∙ with_inputs (given c.requires.form.w ∷ []) (λ xs h p. simp (p, number xs 2, number xs 0, codes) (computes xs h _ _ tt tt)) in
    positive denominator (positive_mul (twice c.requires.some) (twice c.requires.some))

pub returns-clause-value : goal.returns-clause-value
returns-clause-value c =
    same_fraction c.new.result (squared_radius_of c.args.self c.args.p.now) (pos c.sum_of_squares.result) (pos c.sum_of_squares-2.result) c.new.ensures.value
    (c.sum_of_squares.ensures.value ∙ with_inputs (given c.requires.form.x ∷ given c.requires.form.y ∷ given c.requires.form.w ∷ given (near c.x.ensures.value c.x.ensures.bounds) ∷ given (near c.y.ensures.value c.y.ensures.bounds) ∷ []) (λ xs h p q r s t. simp (p, q, r, s, t, c.x.ensures.value, c.y.ensures.value, number xs 2, codes) (computes xs h _ _ tt tt)))
    (c.sum_of_squares-2.ensures.value ∙ with_inputs (given c.requires.form.w ∷ []) (λ xs h p. simp (p, number xs 2, number xs 0, codes) (computes xs h _ _ tt tt)))

use Rattle.std.proofs.Common.{ap, subst, ℤ, pos, ◌≤ℤ◌, ◌-ℤ◌, ◌+ℤ◌, ◌*ℤ◌, arith, [], ◌∷◌}
use Rattle.std.proofs.lemmas.Int.{ints}
use mir.Syntax.{w128}
use Rattle.integers.specs.Size.{Size}
use Rattle.bounds_model.specs.Numbers.{IsWithin}
use Rattle.bounds_model.specs.Plane.{plane_limit}
use Rattle.integers.proofs.MachineArithmetic.{given, with_inputs, codes, computes, fits, size_within}
use Rattle.min_annulus.proofs.MachineNumbers.{near, through}
use Rattle.min_annulus.proofs.linear_forms.LinearForm.at.Goals as goal

-- a number from 0 to 80000000000
range : {z : ℤ} → pos 0 ≤ℤ z → z ≤ℤ pos 80000000000 → Size 80000000000 z
range h k = record { abs = omega (arith, ints) }

pub overflow_add-result : goal.overflow_add-result
overflow_add-result c = with_inputs (given c.requires.x ∷ given c.requires.y ∷ given c.requires.w ∷ given (range c.squared_length.ensures.low c.squared_length.ensures.high) ∷ given (near c.x.ensures.value c.x.ensures.bounds) ∷ given (near c.y.ensures.value c.y.ensures.bounds) ∷ []) (λ xs h p q r s t u. simp (p, q, r, s, t, u, c.x.ensures.value, c.y.ensures.value, codes) (fits xs h w128 _ tt))

pub overflow_sub-result : goal.overflow_sub-result
overflow_sub-result c = with_inputs (given c.requires.x ∷ given c.requires.y ∷ given c.requires.w ∷ given (range c.squared_length.ensures.low c.squared_length.ensures.high) ∷ given (near c.x.ensures.value c.x.ensures.bounds) ∷ given (near c.y.ensures.value c.y.ensures.bounds) ∷ []) (λ xs h p q r s t u. simp (p, q, r, s, t, u, c.x.ensures.value, c.y.ensures.value, codes) (fits xs h w128 _ tt))

pub returns-clause-value : goal.returns-clause-value
returns-clause-value c =
    through (c.args.self.w *ℤ c.squared_length.result -ℤ (c.args.self.x *ℤ c.args.p.now.x +ℤ c.args.self.y *ℤ c.args.p.now.y)) (with_inputs (given c.requires.x ∷ given c.requires.y ∷ given c.requires.w ∷ given (range c.squared_length.ensures.low c.squared_length.ensures.high) ∷ given (near c.x.ensures.value c.x.ensures.bounds) ∷ given (near c.y.ensures.value c.y.ensures.bounds) ∷ []) (λ xs h p q r s t u. simp (p, q, r, s, t, u, c.x.ensures.value, c.y.ensures.value, codes) (computes xs h _ _ tt tt)))
    (ap (λ s. c.args.self.w *ℤ s -ℤ (c.args.self.x *ℤ c.args.p.now.x +ℤ c.args.self.y *ℤ c.args.p.now.y)) c.squared_length.ensures.value)

pub returns-clause-inside : goal.returns-clause-inside
returns-clause-inside c = record { x = subst (λ z. IsWithin plane_limit z) c.x.ensures.value c.x.ensures.bounds; y = subst (λ z. IsWithin plane_limit z) c.y.ensures.value c.y.ensures.bounds }

pub returns-clause-size : goal.returns-clause-size
returns-clause-size c = with_inputs (given c.requires.x ∷ given c.requires.y ∷ given c.requires.w ∷ given (range c.squared_length.ensures.low c.squared_length.ensures.high) ∷ given (near c.x.ensures.value c.x.ensures.bounds) ∷ given (near c.y.ensures.value c.y.ensures.bounds) ∷ []) (λ xs h p q r s t u. simp (p, q, r, s, t, u, c.x.ensures.value, c.y.ensures.value, codes) (size_within xs h _ tt))

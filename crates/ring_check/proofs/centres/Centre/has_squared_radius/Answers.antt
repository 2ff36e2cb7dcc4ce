use Rattle.std.proofs.Common.{◌^◌, sym, subst, List, ℤ, pos, ◌+ℤ◌, ◌*ℤ◌, ◌≤ℤ◌, [], ◌∷◌}
use mir.Syntax.{w128}
use Rattle.integers.specs.Size.{Size}
use Rattle.integers.proofs.Order.{positive_mul, positive_from_one, at_least_one}
use Rattle.integers.proofs.MachineArithmetic.{Given, given, with_inputs, codes, computes, fits, size_within}
use Rattle.bounds_model.specs.Space.{SpaceRatio}
use Rattle.ring_check.specs.Rings.{IsCentre}
use Rattle.ring_check.proofs.RingNumbers.{same_test}
use Rattle.ring_check.proofs.centres.Centre.has_squared_radius.Goals as goal

-- the numbers of the centre and the level, each with its bound
abbrev inputs : {c : SpaceRatio} {level : ℤ} → IsCentre (2 ^ 42) c → Size (2 ^ 80) level → List Given
inputs c level = given c.x ∷ given c.y ∷ given c.z ∷ given c.w ∷ given level ∷ []

-- the square of a denominator
square_some : {w : ℤ} → pos 1 ≤ℤ w → pos 1 ≤ℤ (w *ℤ w)
square_some h = at_least_one (positive_mul (positive_from_one h) (positive_from_one h))

pub overflow_add-x : goal.overflow_add-x
overflow_add-x c = with_inputs (inputs c.requires.centre c.requires.level) (λ xs h p q r s t. simp (p, q, r, s, t, codes) (fits xs h w128 _ tt))

pub overflow_add-x-2 : goal.overflow_add-x-2
overflow_add-x-2 c = with_inputs (inputs c.requires.centre c.requires.level) (λ xs h p q r s t. simp (p, q, r, s, t, codes) (fits xs h w128 _ tt))

pub overflow_add-w : goal.overflow_add-w
overflow_add-w c = with_inputs (inputs c.requires.centre c.requires.level) (λ xs h p q r s t. simp (p, q, r, s, t, codes) (fits xs h w128 _ tt))

pub has_value-requires-clause-numerator : goal.has_value-requires-clause-numerator
has_value-requires-clause-numerator c = with_inputs (inputs c.requires.centre c.requires.level) (λ xs h p q r s t. simp (p, q, r, s, t, codes) (size_within xs h _ tt))

pub has_value-requires-clause-denominator : goal.has_value-requires-clause-denominator
has_value-requires-clause-denominator c = with_inputs (inputs c.requires.centre c.requires.level) (λ xs h p q r s t. simp (p, q, r, s, t, codes) (size_within xs h _ tt))

pub has_value-requires-clause-some : goal.has_value-requires-clause-some
has_value-requires-clause-some c =
    subst (λ z. pos 1 ≤ℤ z) (sym (with_inputs (inputs c.requires.centre c.requires.level) (λ xs h p q r s t. simp (p, q, r, s, t, codes) (computes xs h _ _ tt tt)))) (square_some c.requires.centre.some)

pub returns : goal.returns
returns c =
    let x = c.args.self.x in
    let y = c.args.self.y in
    let z = c.args.self.z in
    let w = c.args.self.w in
    same_test {m = w *ℤ c.args.level +ℤ (x *ℤ x +ℤ y *ℤ y +ℤ z *ℤ z)} {e = w *ℤ w} c.args.radius.now
    (with_inputs (inputs c.requires.centre c.requires.level) (λ xs h p q r s t. simp (p, q, r, s, t, codes) (computes xs h _ _ tt tt)))
    (with_inputs (inputs c.requires.centre c.requires.level) (λ xs h p q r s t. simp (p, q, r, s, t, codes) (computes xs h _ _ tt tt))) c.has_value.ensures

use Rattle.std.proofs.Common.{◌≡◌, sym, ap, subst, ℤ, pos, ◌+ℤ◌, ◌-ℤ◌, ◌*ℤ◌, [], ◌∷◌, List, ◌^◌}
use mir.Syntax.{w64, w128}
use Rattle.integers.specs.Size.{Size}
use Rattle.integers.proofs.Sizes.{size_sub, size_mul, size_more}
use Rattle.integers.proofs.MachineArithmetic.{Given, given, with_inputs, codes, computes, fits, number}
use Rattle.min_annulus.specs.declared.difference_vectors.DifferenceVector.{DifferenceVector}
use Rattle.min_annulus.specs.DifferenceVectors.{IsDifference, cross, side}
use Rattle.min_annulus.proofs.MachineNumbers.{decided, back64, back128}
use Rattle.min_annulus.proofs.difference_vectors.DifferenceVector.has_target_left.Goals as goal

-- the area and the coordinates, each with its bound
abbrev inputs : {a b : DifferenceVector} {r : ℤ} → IsDifference a → IsDifference b → r ≡ cross a b → List Given
inputs {a} {b} {r} ha hb e =
    given (subst (Size (2 ^ 39)) (sym e) (size_more (size_sub (size_mul ha.x hb.y) (size_mul ha.y hb.x)) tt)) ∷ given ha.x ∷ given ha.y ∷ given hb.x ∷ given hb.y ∷ []

pub overflow_add-near : goal.overflow_add-near
overflow_add-near c = with_inputs (given c.requires.from.x ∷ given c.requires.from.y ∷ given c.requires.to.x ∷ given c.requires.to.y ∷ []) (λ xs h p q r s. simp (p, q, r, s, number xs 4194304, codes) (fits xs h w64 _ tt))

pub overflow_add-result : goal.overflow_add-result
overflow_add-result c = with_inputs (inputs c.requires.from c.requires.to c.cross.ensures) (λ xs h p q r s t. simp (p, q, r, s, t, number xs 4194304, number xs 17592186044416, codes) (fits xs h w128 _ tt))

-- by the call's result
abbrev with_area : DifferenceVector → DifferenceVector → ℤ → ℤ
with_area a b r = r *ℤ pos 17592186044416 +ℤ ((a.y -ℤ b.y) *ℤ pos 4194304 +ℤ (b.x -ℤ a.x))

-- as the machine computes it
abbrev machine : DifferenceVector → DifferenceVector → ℤ → ℤ
machine a b r = back128 (back128 (back128 (back64 r) *ℤ pos 17592186044416) +ℤ back128 (back64 (back64 (back64 (back64 a.y -ℤ back64 b.y) *ℤ pos 4194304) +ℤ back64 (back64 b.x -ℤ back64 a.x))))

pub returns : goal.returns
returns c = decided (machine c.args.self c.args.to c.cross.result) (with_area c.args.self c.args.to c.cross.result) (side c.args.self c.args.to) (with_inputs (inputs c.requires.from c.requires.to c.cross.ensures) (λ xs h p q r s t. simp (p, q, r, s, t, number xs 4194304, number xs 17592186044416, codes) (computes xs h _ _ tt tt))) (ap (with_area c.args.self c.args.to) c.cross.ensures)

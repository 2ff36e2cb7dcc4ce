use Rattle.std.proofs.Common.{◌≡◌, ◌∙◌, ap₂, ℤ, ◌+ℤ◌, ◌*ℤ◌, List, [], ◌∷◌, w64, to_z, of_z}
use mir.Syntax.{w32}
use Rattle.bounds_model.specs.Numbers.{IsWithin}
use Rattle.bounds_model.specs.Fans.{IsShort}
use Rattle.bounds_model.specs.Plane.{PlanePoint, plane_limit}
use Rattle.directions.proofs.Bounds.{within_of_size}
use Rattle.integers.proofs.Sizes.{size_between}
use Rattle.integers.proofs.MachineArithmetic.{Given, given, with_inputs, codes, computes, fits, size_within}
use Rattle.fan_test.proofs.direction.Direction.dot.Goals as goal

-- the coordinates, each with its bound
abbrev inputs : {d : PlanePoint} {x y : ℤ} → IsShort d → IsWithin plane_limit x → IsWithin plane_limit y → List Given
inputs d x y = given (size_between d.x.low d.x.high) ∷ given (size_between d.y.low d.y.high) ∷ given (size_between x.low x.high) ∷ given (size_between y.low y.high) ∷ []

pub overflow_add-result : goal.overflow_add-result
overflow_add-result c = with_inputs (inputs c.requires c.x.ensures.bounds c.y.ensures.bounds) (λ xs h a b x y. simp (a, b, x, y, codes) (fits xs h w64 _ tt))

pub returns-clause-value : goal.returns-clause-value
returns-clause-value c =
    let sum : to_z w64 (of_z w64 (to_z w64 (of_z w64 (to_z w64 (of_z w64 c.args.self.x) *ℤ to_z w64 (of_z w64 (to_z w32 (of_z w32 c.x.result))))) +ℤ to_z w64 (of_z w64 (to_z w64 (of_z w64 c.args.self.y) *ℤ to_z w64 (of_z w64 (to_z w32 (of_z w32 c.y.result))))))) ≡ c.args.self.x *ℤ c.x.result +ℤ c.args.self.y *ℤ c.y.result
    = with_inputs (inputs c.requires c.x.ensures.bounds c.y.ensures.bounds) (λ xs h a b x y. simp (a, b, x, y, codes) (computes xs h _ _ tt tt)) in
    sum ∙ ap₂ (λ x y. c.args.self.x *ℤ x +ℤ c.args.self.y *ℤ y) c.x.ensures.value c.y.ensures.value

pub returns-clause-small : goal.returns-clause-small
returns-clause-small c = within_of_size (with_inputs (inputs c.requires c.x.ensures.bounds c.y.ensures.bounds) (λ xs h a b x y. simp (a, b, x, y, codes) (size_within xs h _ tt)))

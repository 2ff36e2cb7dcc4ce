use Rattle.std.proofs.Common.{List, [], ◌∷◌, w64}
use Rattle.bounds_model.specs.Fans.{IsShort}
use Rattle.bounds_model.specs.Plane.{PlanePoint}
use Rattle.integers.proofs.Sizes.{size_between}
use Rattle.integers.proofs.MachineArithmetic.{Given, given, with_inputs, codes, computes, fits}
use Rattle.fan_test.proofs.direction.Direction.cross.Goals as goal

-- the coordinates, each with its bound
abbrev inputs : {d e : PlanePoint} → IsShort d → IsShort e → List Given
inputs d e = given (size_between d.x.low d.x.high) ∷ given (size_between d.y.low d.y.high) ∷ given (size_between e.x.low e.x.high) ∷ given (size_between e.y.low e.y.high) ∷ []

pub overflow_sub-result : goal.overflow_sub-result
overflow_sub-result c = with_inputs (inputs c.requires.first c.requires.second) (λ xs h a b d e. simp (a, b, d, e, codes) (fits xs h w64 _ tt))

pub returns : goal.returns
returns c = with_inputs (inputs c.requires.first c.requires.second) (λ xs h a b d e. simp (a, b, d, e, codes) (computes xs h _ _ tt tt))

-- What an answer of the equation solver says.
use Rattle.std.specs.Prelude.{ℕ, ℤ, List}
use Rattle.bounds_model.specs.Space.{SpacePoint}
use Rattle.bounds_model.specs.Slacks.{IsDependence}
use Rattle.kernel_laws.specs.Solutions.{IsWeighting}
use Rattle.kernel_laws.specs.declared.solver.Solved.{Solved}
use Rattle.kernel_laws.specs.declared.solver.Solved.TheVariants.{Weights, Null}

-- weights of equal slacks, or a dependence
abbrev pub Answers : ℤ → ℕ → List SpacePoint → Solved → Type 0
Answers quadratic limit vectors (Weights ws) = IsWeighting quadratic limit vectors ws.items
Answers quadratic limit vectors (Null ns) = IsDependence vectors ns.items

-- the answer is a dependence
abbrev pub IsNull : Solved → Type 0
IsNull (Weights ws) = ⊥
IsNull (Null ns) = Unit {0}

-- the answer is a dependence of the vectors
abbrev pub Shows : List SpacePoint → Solved → Type 0
Shows vectors (Weights ws) = ⊥
Shows vectors (Null ns) = IsDependence vectors ns.items

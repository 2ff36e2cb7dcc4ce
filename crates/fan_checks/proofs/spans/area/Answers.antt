use Rattle.std.proofs.Common.{sym, [], ◌∷◌}
use mir.Syntax.{w128}
use Rattle.integers.proofs.MachineArithmetic.{given, with_inputs, codes, fits, computes, size_within}
use Rattle.fan_checks.proofs.spans.area.Goals as goal

pub overflow_mul-result : goal.overflow_mul-result
overflow_mul-result c = with_inputs (given c.extent.ensures.size ∷ given c.extent-2.ensures.size ∷ []) (λ xs h a b. simp (a, b, codes) (fits xs h w128 _ tt))

pub returns-clause-value : goal.returns-clause-value
returns-clause-value c = simp (sym c.extent.ensures.value, sym c.extent-2.ensures.value) (with_inputs (given c.extent.ensures.size ∷ given c.extent-2.ensures.size ∷ []) (λ xs h a b. simp (a, b, codes) (computes xs h _ _ tt tt)))

pub returns-clause-size : goal.returns-clause-size
returns-clause-size c = with_inputs (given c.extent.ensures.size ∷ given c.extent-2.ensures.size ∷ []) (λ xs h a b. simp (a, b, codes) (size_within xs h _ tt))

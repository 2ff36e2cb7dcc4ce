use Rattle.std.proofs.Common.{◌≤ℤ◌, take}
use Rattle.std.specs.Prelude.{All}
use Rattle.corral.specs.Moments.{slack_at}
use Rattle.corral.specs.Balances.{vectors}
use Rattle.corral.proofs.search.are_above.Given as goal

abbrev pub invariant-loop-candidate : goal.invariant-loop-candidate
invariant-loop-candidate g l = All (λ v. l.level ≤ℤ slack_at g.T.Potential.SQUARE l.moments v) (vectors (take l.candidate-index l.all))

use Rattle.std.proofs.Common.{◌+◌}
use Rattle.extremal_kgon.specs.Rows.{at, IsBestSum}
use Rattle.extremal_kgon.proofs.rows.best_sum.Given as goal

abbrev pub invariant-earlier : goal.invariant-earlier
invariant-earlier l = IsBestSum (λ j. at l.areas (l.start + j)) l.before l.j l.most

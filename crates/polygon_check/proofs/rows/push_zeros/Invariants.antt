use Rattle.std.proofs.Common.{◌^◌, pos}
use Rattle.polygon_check.specs.PotentialRows.{Adds}
use Rattle.polygon_check.proofs.rows.push_zeros.Given as goal

abbrev pub invariant-zeros : goal.invariant-zeros
invariant-zeros l = Adds (2 ^ 43) (λ j. pos 0) l._j l.fn.rows.items l.rows.items

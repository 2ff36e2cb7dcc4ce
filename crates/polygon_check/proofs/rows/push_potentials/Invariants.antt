use Rattle.std.proofs.Common.{◌+◌, ◌^◌, map, pos}
use Rattle.polygon_check.specs.PotentialRows.{at, Adds}
use Rattle.polygon_check.proofs.rows.push_potentials.Given as goal

abbrev pub invariant-numbers : goal.invariant-numbers
invariant-numbers l = Adds (2 ^ 43) (λ j. at (map pos l.potentials) (l.start + j)) l.j l.fn.rows.items l.rows.items

use Rattle.std.proofs.Common.{◌≡◌, ◌++◌, map, take}
use Rattle.std.specs.Prelude.{nat_abs}
use Rattle.extremal_kgon.proofs.table.push_row.Given as goal

abbrev pub invariant-row : goal.invariant-row
invariant-row l = l.potentials ≡ l.fn.potentials ++ map nat_abs (take l.i l.row)

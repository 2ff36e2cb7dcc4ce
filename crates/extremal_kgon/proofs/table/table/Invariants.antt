use Rattle.std.proofs.Common.{map, pos}
use Rattle.extremal_kgon.specs.Tables.{IsTable}
use Rattle.extremal_kgon.proofs.table.table.Given as goal

abbrev pub invariant-firsts : goal.invariant-firsts
invariant-firsts l = IsTable l.corners l.fn.layers l.first (map pos l.potentials) l.best

use Rattle.extremal_kgon.specs.Rows.{IsZeroRow}
use Rattle.extremal_kgon.proofs.rows.zero_row.Given as goal

abbrev pub invariant-later : goal.invariant-later
invariant-later l = IsZeroRow l._i l.row.items

use Rattle.std.proofs.Common.{◌≡◌, ◌<◌, length, append_assoc, rules, arith}
use Rattle.std.proofs.lemmas.Grind.{common_steps}
use Rattle.std.proofs.lemmas.List.{take_rest}
use Rattle.witness_format.proofs.RowTexts.{some_row, no_row}
use Rattle.witness_format.proofs.potential_rows.push_row.Goals as goal

pub returns-then-is_empty : goal.returns-then-is_empty
returns-then-is_empty c =
    let none : length c.args.row.now ≡ 0 = grind (arith, common_steps) in
    rw (no_row c.args.row.now none) (search rules)

pub returns : goal.returns
returns c =
    let some : 0 < length c.args.row.now = grind (arith, common_steps) in
    rw (some_row c.args.row.now some) (search (rules, append_assoc, take_rest c.args.row.now 1))

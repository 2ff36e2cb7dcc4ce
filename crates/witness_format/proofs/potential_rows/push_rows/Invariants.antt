use Rattle.std.proofs.Common.{◌≡◌, ◌++◌, length, map, pos}
use Rattle.bounds_model.specs.AnswerText.Kinds.{triangle}
use Rattle.bounds_model.specs.AnswerText.Written.{rows_bytes}
use Rattle.witness_format.specs.Rows.{widths_left}
use Rattle.witness_format.proofs.potential_rows.push_rows.Given as goal

abbrev pub invariant-rows : goal.invariant-rows
invariant-rows l = l.text.items ++ rows_bytes (widths_left l.widths) (map pos l.rest) ≡ l.fn.text.items ++ rows_bytes (triangle l.longest l.layers) (map pos l.numbers)

abbrev pub decreases-rows : goal.decreases-rows
decreases-rows l = length (widths_left l.widths)

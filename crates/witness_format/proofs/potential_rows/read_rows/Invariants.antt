use Rattle.std.proofs.Common.{◌≡◌, ◌+◌, ◌≤◌, length, map, pos}
use Rattle.bounds_model.specs.AnswerText.Formats.{rows_at}
use Rattle.bounds_model.specs.AnswerText.Kinds.{triangle}
use Rattle.answer_lines.specs.Lines.{lines_left}
use Rattle.witness_format.specs.Rows.{widths_left, rows_behind}
use Rattle.witness_format.proofs.RowReadings.{width_sum}
use Rattle.witness_format.proofs.potential_rows.read_rows.Given as goal

abbrev pub invariant-rows : goal.invariant-rows
invariant-rows l = record {
  so_far : rows_behind (map pos l.numbers) (widths_left l.widths) (lines_left l.text) ≡ rows_at (triangle l.longest l.layers) (lines_left l.fn.text);
  amount : length l.numbers + width_sum (widths_left l.widths) ≤ 161290;
}

abbrev pub decreases-rows : goal.decreases-rows
decreases-rows l = length (widths_left l.widths)

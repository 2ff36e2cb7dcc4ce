use Rattle.std.proofs.Common.{◌≡◌, ◌∙◌, sym, ap, ◌+◌, length, pos, map, arith}
use Rattle.bounds_model.specs.AnswerText.Kinds.{triangle}
use Rattle.answer_lines.specs.Lines.{lines_left}
use Rattle.witness_format.specs.Rows.{widths_left, rows_behind}
use Rattle.witness_format.proofs.RowReadings.{width_sum, few_numbers, none_before, row_read}
use Rattle.witness_format.proofs.potential_rows.read_rows.Goals as goal

pub rows-preserved : goal.rows-preserved
rows-preserved c =
    let behind = widths_left c.next.new.self in
    let sum : width_sum (widths_left c.rows.widths) ≡ c.in-Some.width + width_sum behind = ap width_sum c.in-Some.ensures in
    record {
      so_far = sym (row_read (map pos c.rows.numbers) (map pos c.read_row.new.numbers) c.in-Some.width behind (lines_left c.rows.text) (lines_left c.read_row.new.text) c.in_ok-read_row.ensures.row)
          ∙ ap (λ ws. rows_behind (map pos c.rows.numbers) ws (lines_left c.rows.text)) (sym c.in-Some.ensures) ∙ c.rows.invariant.so_far;
      amount = omega (arith, c.in_ok-read_row.ensures.amount, sum, c.rows.invariant.amount);
    }

pub rows-init : goal.rows-init
rows-init c =
    let widths : widths_left c.new-widths.result ≡ triangle c.args.longest c.args.layers = c.new-widths.ensures in
    let sum : width_sum (widths_left c.new-widths.result) ≡ width_sum (triangle c.args.longest c.args.layers) = ap width_sum widths in
    record {
      so_far = (λ i. rows_behind (map pos (c.new-numbers.ensures i)) (widths i) (lines_left c.args.text.now)) ∙ none_before (triangle c.args.longest c.args.layers) (lines_left c.args.text.now);
      amount = omega (arith, ap length c.new-numbers.ensures, sum, few_numbers c.args.longest c.args.layers c.requires.longest c.requires.layers);
    }

use Rattle.std.proofs.Common.{◌≡◌, ◌∙◌, sym, ap, append_assoc, ◌++◌, length, min, take, drop, pos, map}
use Rattle.bounds_model.specs.AnswerText.Written.{format_line, row_format, rows_bytes}
use Rattle.witness_format.specs.Rows.{widths_left}
use Rattle.witness_format.proofs.RowTexts.{row_printed}
use Rattle.witness_format.proofs.potential_rows.push_rows.Goals as goal

pub rows-preserved : goal.rows-preserved
rows-preserved c =
    let behind = widths_left c.next.new.self in
    let rest = c.rows.rest.now in
    let row = c.split_at.result.0.now in
    let others = c.split_at.result.1.now in
    let amount : c.min.result ≡ min c.in-Some.width (length rest) = c.min.ensures in
    let printed = row_printed c.in-Some.width behind rest row others (c.split_at.ensures.front ∙ ap (λ k. take k rest) amount) (c.split_at.ensures.back ∙ ap (λ k. drop k rest) amount) in
    ap (λ x. x ++ rows_bytes behind (map pos others)) c.in_ok-push_row.ensures
    ∙ append_assoc c.rows.text.items (format_line (row_format (length row)) (map pos row, tt)) (rows_bytes behind (map pos others))
    ∙ ap (λ x. c.rows.text.items ++ x) (sym printed) ∙ ap (λ ws. c.rows.text.items ++ rows_bytes ws (map pos rest)) (sym c.in-Some.ensures) ∙ c.rows.invariant

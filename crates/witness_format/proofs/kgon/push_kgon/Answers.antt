use Rattle.std.proofs.Common.{◌≡◌, ◌∙◌, sym, ap, ◌+◌, ◌-◌, codes, map, length, pos, rules, [], ◌∷◌, ◌++◌, arith}
use Rattle.std.proofs.lemmas.Result.{on_ok_weaker}
use Rattle.bounds_model.specs.AnswerText.Fields.{bounded, point_number}
use Rattle.bounds_model.specs.AnswerText.LineFormats.{Values}
use Rattle.bounds_model.specs.AnswerText.Formats.{counted, count}
use Rattle.bounds_model.specs.AnswerText.Kinds.{triangle}
use Rattle.bounds_model.specs.AnswerText.Written.{part_bytes, rows_bytes}
use Rattle.witness_format.proofs.Polygons.{corner_values, longest_row}
use Rattle.answer_lines.proofs.PrintedWords.{one_behind, last_behind}
use Rattle.witness_format.proofs.kgon.push_kgon.Goals as goal

pub returns : goal.returns
returns c =
    let a = c.args.a.now in
    let one = part_bytes (counted (record { word = codes "corners"; low = 1; high = 128 }) 0 (point_number ∷ [])) [] (map corner_values a.corners) in
    let two = part_bytes (counted (record { word = codes "chosen"; low = 1; high = 12 }) 0 (bounded 0 127 ∷ [])) [] (map {B = Values (bounded 0 127 ∷ [])} (λ n. (n, tt)) a.chosen.items) in
    let three = part_bytes (count (record { word = codes "layers"; low = 0; high = 10 })) [] a.layers in
    let four = rows_bytes (triangle (length (map corner_values a.corners) + 0 - 1) a.layers) (map pos a.potentials) in
    let longest : c.saturating_sub-longest.result ≡ length a.corners - 1 = omega (arith, c.saturating_sub-longest.ensures, c.len.ensures.count) in
    let rows = ap (λ ws. c.push_count.new.text.items ++ rows_bytes ws (map pos a.potentials)) (sym (longest_row a.corners c.saturating_sub-longest.result a.layers longest)) in
    let first : c.push_counted.new.text.items ≡ c.args.text.now.items ++ one = search (rules, c.in_ok-push_counted.ensures, c.as_slice.ensures) in
    let second : c.push_counted-2.new.text.items ≡ c.push_counted.new.text.items ++ two = search (rules, c.in_ok-push_counted-2.ensures, c.as_slice-2.ensures) in
    let third : c.push_count.new.text.items ≡ c.push_counted-2.new.text.items ++ three = search (rules, c.in_ok-push_count.ensures) in
    on_ok_weaker c.push_rows.result (λ e.
    let last : c.push_rows.new.text.items ≡ c.push_count.new.text.items ++ rows_bytes (triangle c.saturating_sub-longest.result a.layers) (map pos a.potentials) = search (rules, e, c.as_slice-3.ensures) in
    one_behind c.args.text.now.items c.push_counted.new.text.items c.push_rows.new.text.items one (two ++ (three ++ (four ++ []))) first
    (one_behind c.push_counted.new.text.items c.push_counted-2.new.text.items c.push_rows.new.text.items two (three ++ (four ++ [])) second
    (one_behind c.push_counted-2.new.text.items c.push_count.new.text.items c.push_rows.new.text.items three (four ++ []) third
    (last_behind c.push_count.new.text.items c.push_rows.new.text.items four (last ∙ rows))))) c.push_rows.ensures

use Rattle.std.proofs.Common.{◌≡◌, ◌∙◌, ap, codes, map, [], ◌∷◌, ◌++◌}
use Rattle.std.proofs.lemmas.Result.{on_ok_weaker}
use Rattle.bounds_model.specs.AnswerText.Fields.{number, space_ratio}
use Rattle.bounds_model.specs.AnswerText.LineFormats.{titled}
use Rattle.bounds_model.specs.AnswerText.Kinds.{pairs}
use Rattle.bounds_model.specs.AnswerText.Written.{format_line, part_bytes}
use Rattle.witness_format.specs.Bodies.{pair_values, space_dir_values}
use Rattle.answer_lines.proofs.PrintedWords.{one_behind, last_behind}
use Rattle.witness_format.proofs.distance.push_distance.Goals as goal

pub returns : goal.returns
returns c =
    let a = c.args.a.now in
    let one = format_line (titled (codes "from") (space_ratio ∷ [])) (a.from, tt) in
    let two = format_line (titled (codes "to") (space_ratio ∷ [])) (a.to, tt) in
    let three = format_line (titled (codes "direction") (number ∷ number ∷ number ∷ [])) (space_dir_values a.direction) in
    let four = part_bytes (pairs 4) [] (map pair_values a.pairs.items) in
    on_ok_weaker c.push_counted.result (λ e.
    let last : c.push_counted.new.text.items ≡ c.push_titled-3.new.text.items ++ four = e ∙ ap (λ xs. c.push_titled-3.new.text.items ++ part_bytes (pairs 4) [] (map pair_values xs)) c.as_slice.ensures.value in
    one_behind c.args.text.now.items c.push_titled.new.text.items c.push_counted.new.text.items one (two ++ (three ++ (four ++ []))) c.in_ok-push_titled.ensures
    (one_behind c.push_titled.new.text.items c.push_titled-2.new.text.items c.push_counted.new.text.items two (three ++ (four ++ [])) c.in_ok-push_titled-2.ensures
    (one_behind c.push_titled-2.new.text.items c.push_titled-3.new.text.items c.push_counted.new.text.items three (four ++ []) c.in_ok-push_titled-3.ensures
    (last_behind c.push_titled-3.new.text.items c.push_counted.new.text.items four last)))) c.push_counted.ensures

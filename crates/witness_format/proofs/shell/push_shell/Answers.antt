use Rattle.std.proofs.Common.{◌≡◌, ◌∙◌, ap, codes, map, [], ◌∷◌, ◌++◌}
use Rattle.std.proofs.lemmas.Result.{on_ok_weaker}
use Rattle.bounds_model.specs.AnswerText.Fields.{number, space_ratio}
use Rattle.bounds_model.specs.AnswerText.LineFormats.{titled}
use Rattle.bounds_model.specs.AnswerText.Kinds.{pairs}
use Rattle.bounds_model.specs.AnswerText.Written.{format_line, part_bytes}
use Rattle.witness_format.specs.Bodies.{pair_values, span_values}
use Rattle.answer_lines.proofs.PrintedWords.{one_behind, last_behind}
use Rattle.witness_format.proofs.shell.push_shell.Goals as goal

pub returns : goal.returns
returns c =
    let a = c.args.a.now in
    let one = format_line (titled (codes "center") (space_ratio ∷ [])) (a.center, tt) in
    let two = format_line (titled (codes "levels") (number ∷ number ∷ [])) (a.low, (a.high, tt)) in
    let three = part_bytes (pairs 4) [] (map pair_values a.pairs.items) in
    on_ok_weaker c.push_counted.result (λ e.
    let last : c.push_counted.new.text.items ≡ c.push_titled-2.new.text.items ++ three = e ∙ ap (λ xs. c.push_titled-2.new.text.items ++ part_bytes (pairs 4) [] (map pair_values xs)) c.as_slice.ensures.value in
    let levels = c.in_ok-push_titled-2.ensures ∙ ap (λ s. c.push_titled.new.text.items ++ format_line (titled (codes "levels") (number ∷ number ∷ [])) (span_values s)) c.levels-levels.ensures in
    one_behind c.args.text.now.items c.push_titled.new.text.items c.push_counted.new.text.items one (two ++ (three ++ [])) c.in_ok-push_titled.ensures
    (one_behind c.push_titled.new.text.items c.push_titled-2.new.text.items c.push_counted.new.text.items two (three ++ []) levels
    (last_behind c.push_titled-2.new.text.items c.push_counted.new.text.items three last))) c.push_counted.ensures

use Rattle.std.proofs.Common.{codes, map, [], ◌++◌}
use Rattle.std.proofs.lemmas.Result.{on_ok_weaker}
use Rattle.std.specs.Prelude.{zip}
use Rattle.bounds_model.specs.AnswerText.LineFormats.{titled, untitled}
use Rattle.bounds_model.specs.AnswerText.Kinds.{side_fields, fan, chorded_fields, last_fields}
use Rattle.bounds_model.specs.AnswerText.Written.{format_line, part_bytes}
use Rattle.witness_format.specs.Bodies.{side_values, chorded_values, chorded_end_values, last_chord}
use Rattle.answer_lines.proofs.PrintedWords.{one_behind, two_behind}
use Rattle.witness_format.proofs.parallelogram.push_parallelogram.Goals as goal

pub returns : goal.returns
returns c =
    let a = c.args.a.now in
    let one = format_line (titled (codes "first") (side_fields)) (side_values a.first a.first_span) in
    let two = format_line (titled (codes "second") (side_fields)) (side_values a.second a.second_span) in
    let three = part_bytes (fan chorded_fields) [] (map chorded_values (zip a.fan.cones a.chords)) in
    let four = format_line (untitled last_fields) (chorded_end_values a.fan.last (last_chord a.chords)) in
    on_ok_weaker c.push_chords.result (λ e. one_behind c.args.text.now.items c.push_titled.new.text.items c.push_chords.new.text.items one (two ++ (three ++ (four ++ []))) c.in_ok-push_titled.ensures
    (one_behind c.push_titled.new.text.items c.push_titled-2.new.text.items c.push_chords.new.text.items two (three ++ (four ++ [])) c.in_ok-push_titled-2.ensures
    (two_behind c.push_titled-2.new.text.items c.push_chords.new.text.items three four e))) c.push_chords.ensures

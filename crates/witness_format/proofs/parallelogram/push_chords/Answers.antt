use Rattle.std.proofs.Common.{◌≡◌, ◌∙◌, ap, [], ◌+◌, ◌++◌, length, map, arith}
use Rattle.std.specs.Prelude.{zip}
use Rattle.std.proofs.lemmas.Result.{on_ok_weaker}
use Rattle.bounds_model.specs.AnswerText.LineFormats.{untitled}
use Rattle.bounds_model.specs.AnswerText.Kinds.{fan, chorded_fields, last_fields}
use Rattle.bounds_model.specs.AnswerText.Written.{format_line, part_bytes}
use Rattle.witness_format.specs.Bodies.{chorded_values, chorded_end_values, last_chord}
use Rattle.witness_format.proofs.ChordLines.{chords_printed}
use Rattle.witness_format.proofs.parallelogram.push_chords.Goals as goal

pub returns : goal.returns
returns c =
    let a = c.args.a.now in
    let one = c.args.text.now.items in
    let cones = c.as_slice-cones.result.now in
    let chords = c.as_slice-chords.result.now in
    let cones-are = c.as_slice-cones.ensures.items in
    let chords-are = c.as_slice-chords.ensures.items in
    let amount : length chords ≡ length cones + 1 = omega (arith, c.requires, ap length cones-are, ap length chords-are) in
    on_ok_weaker c.push_line.result (λ e.
    chords_printed one c.push_count.new.text.items c.push_chorded.new.text.items c.push_line.new.text.items cones chords a.fan.last _ amount c.in_ok-push_count.ensures c.in_ok-push_chorded.ensures e
    ∙ (λ i. one ++ (part_bytes (fan chorded_fields) [] (map chorded_values (zip (cones-are i) (chords-are i))) ++ format_line (untitled last_fields) (chorded_end_values a.fan.last (last_chord (chords-are i))))))
    c.push_line.ensures

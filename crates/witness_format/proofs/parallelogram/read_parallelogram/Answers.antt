use Rattle.std.proofs.Common.{◌≡◌, ◌∙◌, refl, sym, ap, ◌-◌, [], ◌∷◌, codes, map, arith}
use Rattle.std.specs.Prelude.{zip}
use Rattle.bounds_model.specs.AnswerText.LineFormats.{titled, untitled}
use Rattle.bounds_model.specs.AnswerText.Formats.{◌>>=◌, line, lines_at, counts_after}
use Rattle.bounds_model.specs.AnswerText.Kinds.{parallelogram_kind, side_fields, fan, chorded_fields, last_fields}
use Rattle.witness_format.specs.Bodies.{side_values, chorded_values, chorded_end_values}
use Rattle.answer_lines.specs.Lines.{lines_left}
use Rattle.witness_format.proofs.ChordLines.{read_parallelogram_is}
use Rattle.witness_format.proofs.KindTexts.{part_read, body_read}
use Rattle.witness_format.proofs.parallelogram.read_parallelogram.Goals as goal

pub returns : goal.returns
returns c =
    let first = c.in_ok-first.first in
    let second = c.in_ok-second.second in
    let cones = c.in_ok-cones.cones in
    let chords = c.in_ok-cones.chords in
    let end = c.in_ok-end.end in
    let first-part = line (titled (codes "first") side_fields) in
    let second-part = line (titled (codes "second") side_fields) in
    let end-part = line (untitled last_fields) in
    let one = lines_left c.args.text.now in
    let two = lines_left c.read_titled.new.text in
    let three = lines_left c.read_titled-2.new.text in
    let four = lines_left c.read_count.new.text in
    let five = lines_left c.read_chorded.new.text in
    let six = lines_left c.read_line.new.text in
    let less : c.saturating_sub.result ≡ c.in_ok-count.count - 1 = omega (arith, c.saturating_sub.ensures) in
    let lines = ap (λ r. r >>= λ n. lines_at (n.0.0 - 1) (untitled chorded_fields) n.1) c.in_ok-count.ensures.count ∙ ap (λ k. lines_at k (untitled chorded_fields) four) (sym less) ∙ c.in_ok-cones.ensures.lines in
    body_read parallelogram_kind c.args.size one _ six _
    (part_read first-part (second-part ∷ fan chorded_fields ∷ end-part ∷ []) [] one (side_values first.normal first.span) two _ six c.in_ok-first.ensures
    (part_read second-part (fan chorded_fields ∷ end-part ∷ []) [] two (side_values second.normal second.span) three _ six c.in_ok-second.ensures
    (part_read (fan chorded_fields) (end-part ∷ []) [] three (map chorded_values (zip cones chords)) five _ six lines
    (part_read end-part [] (counts_after (fan chorded_fields) (map chorded_values (zip cones chords)) []) five (chorded_end_values end.dir end.chord) six tt six c.in_ok-end.ensures refl))))
    (read_parallelogram_is (record { size = c.args.size; first = first.normal; first_span = first.span; second = second.normal; second_span = second.span; fan = record { cones = cones; last = end.dir }; chords = c.add.new.values }) chords end.chord c.in_ok-add.ensures.added
    (c.in_ok-cones.ensures.cones ∙ sym c.in_ok-cones.ensures.chords))

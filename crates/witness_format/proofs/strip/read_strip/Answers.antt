use Rattle.std.proofs.Common.{refl, [], ◌∷◌, codes, map}
use Rattle.bounds_model.specs.AnswerText.Fields.{number}
use Rattle.bounds_model.specs.AnswerText.LineFormats.{titled, untitled}
use Rattle.bounds_model.specs.AnswerText.Formats.{line, counts_after}
use Rattle.bounds_model.specs.AnswerText.Kinds.{strip_kind, fan, half_fields}
use Rattle.witness_format.specs.Bodies.{dir_values, span_values, half_cone_values}
use Rattle.answer_lines.specs.Lines.{lines_left}
use Rattle.witness_format.proofs.KindTexts.{part_read, body_read}
use Rattle.witness_format.proofs.SaidAnswers.{strip_is}
use Rattle.witness_format.proofs.strip.read_strip.Goals as goal

pub returns : goal.returns
returns c =
    let direction-part = line (titled (codes "direction") (number ∷ number ∷ [])) in
    let bounds-part = line (titled (codes "bounds") (number ∷ number ∷ [])) in
    let cones-part = fan half_fields in
    let last-part = line (untitled (number ∷ number ∷ [])) in
    let one = lines_left c.args.text.now in
    let two = lines_left c.read_titled.new.text in
    let three = lines_left c.read_titled-2.new.text in
    let four = lines_left c.read_listed.new.text in
    let five = lines_left c.read_line.new.text in
    body_read strip_kind c.args.size one _ five _
    (part_read direction-part (bounds-part ∷ cones-part ∷ last-part ∷ []) [] one (dir_values c.in_ok-direction.direction) two _ five c.in_ok-direction.ensures
    (part_read bounds-part (cones-part ∷ last-part ∷ []) [] two (span_values c.in_ok-bounds.bounds) three _ five c.in_ok-bounds.ensures
    (part_read cones-part (last-part ∷ []) [] three (map half_cone_values c.in_ok-cones.cones) four _ five c.in_ok-cones.ensures.lines
    (part_read last-part [] (counts_after cones-part (map half_cone_values c.in_ok-cones.cones) []) four (dir_values c.in_ok-last.last) five tt five c.in_ok-last.ensures refl))))
    (strip_is (record { size = c.args.size; direction = c.in_ok-direction.direction; bounds = c.in_ok-bounds.bounds; fan = record { cones = c.in_ok-cones.cones; last = c.in_ok-last.last } }))

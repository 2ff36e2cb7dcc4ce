use Rattle.std.proofs.Common.{refl, [], ◌∷◌, codes, map}
use Rattle.bounds_model.specs.AnswerText.Fields.{number}
use Rattle.bounds_model.specs.AnswerText.LineFormats.{titled, untitled}
use Rattle.bounds_model.specs.AnswerText.Formats.{line, counts_after}
use Rattle.bounds_model.specs.AnswerText.Kinds.{rectangle_kind, fan, quarter_fields}
use Rattle.witness_format.specs.Bodies.{dir_values, span_values, quarter_cone_values}
use Rattle.answer_lines.specs.Lines.{lines_left}
use Rattle.witness_format.proofs.KindTexts.{part_read, body_read}
use Rattle.witness_format.proofs.SaidAnswers.{rectangle_is}
use Rattle.witness_format.proofs.rectangle.read_rectangle.Goals as goal

pub returns : goal.returns
returns c =
    let direction-part = line (titled (codes "direction") (number ∷ number ∷ [])) in
    let along-part = line (titled (codes "along") (number ∷ number ∷ [])) in
    let across-part = line (titled (codes "across") (number ∷ number ∷ [])) in
    let cones-part = fan quarter_fields in
    let last-part = line (untitled (number ∷ number ∷ [])) in
    let one = lines_left c.args.text.now in
    let two = lines_left c.read_titled.new.text in
    let three = lines_left c.read_titled-2.new.text in
    let four = lines_left c.read_titled-3.new.text in
    let five = lines_left c.read_listed.new.text in
    let six = lines_left c.read_line.new.text in
    body_read rectangle_kind c.args.size one _ six _
    (part_read direction-part (along-part ∷ across-part ∷ cones-part ∷ last-part ∷ []) [] one (dir_values c.in_ok-direction.direction) two _ six c.in_ok-direction.ensures
    (part_read along-part (across-part ∷ cones-part ∷ last-part ∷ []) [] two (span_values c.in_ok-along.along) three _ six c.in_ok-along.ensures
    (part_read across-part (cones-part ∷ last-part ∷ []) [] three (span_values c.in_ok-across.across) four _ six c.in_ok-across.ensures
    (part_read cones-part (last-part ∷ []) [] four (map quarter_cone_values c.in_ok-cones.cones) five _ six c.in_ok-cones.ensures.lines
    (part_read last-part [] (counts_after cones-part (map quarter_cone_values c.in_ok-cones.cones) []) five (dir_values c.in_ok-last.last) six tt six c.in_ok-last.ensures refl)))))
    (rectangle_is (record { size = c.args.size; direction = c.in_ok-direction.direction; along = c.in_ok-along.along; across = c.in_ok-across.across; fan = record { cones = c.in_ok-cones.cones; last = c.in_ok-last.last } }))

use Rattle.std.proofs.Common.{refl, [], ◌∷◌, codes}
use Rattle.bounds_model.specs.AnswerText.Fields.{number, space_ratio}
use Rattle.bounds_model.specs.AnswerText.LineFormats.{titled}
use Rattle.bounds_model.specs.AnswerText.Formats.{line}
use Rattle.bounds_model.specs.AnswerText.Kinds.{distance_kind, pairs}
use Rattle.witness_format.specs.Bodies.{space_dir_values}
use Rattle.answer_lines.specs.Lines.{lines_left}
use Rattle.witness_format.proofs.KindTexts.{part_read, body_read}
use Rattle.witness_format.proofs.SaidAnswers.{distance_is}
use Rattle.witness_format.proofs.distance.read_distance.Goals as goal

pub returns : goal.returns
returns c =
    let from-part = line (titled (codes "from") (space_ratio ∷ [])) in
    let to-part = line (titled (codes "to") (space_ratio ∷ [])) in
    let direction-part = line (titled (codes "direction") (number ∷ number ∷ number ∷ [])) in
    let pairs-part = pairs 4 in
    let one = lines_left c.args.text.now in
    let two = lines_left c.read_titled.new.text in
    let three = lines_left c.read_titled-2.new.text in
    let four = lines_left c.read_titled-3.new.text in
    let five = lines_left c.read_counted.new.text in
    body_read distance_kind c.args.size one _ five _
    (part_read from-part (to-part ∷ direction-part ∷ pairs-part ∷ []) [] one ((c.in_ok-from.from, tt)) two _ five c.in_ok-from.ensures
    (part_read to-part (direction-part ∷ pairs-part ∷ []) [] two ((c.in_ok-to.to, tt)) three _ five c.in_ok-to.ensures
    (part_read direction-part (pairs-part ∷ []) [] three (space_dir_values c.in_ok-direction.direction) four _ five c.in_ok-direction.ensures
    (part_read pairs-part [] [] four _ five tt five c.in_ok-pairs.ensures refl))))
    (distance_is (record { size = c.args.size; from = c.in_ok-from.from; to = c.in_ok-to.to; direction = c.in_ok-direction.direction; pairs = c.in_ok-pairs.pairs }))

use Rattle.std.proofs.Common.{refl, map, List, [], ◌∷◌, codes}
use Rattle.bounds_model.specs.AnswerText.Fields.{plane_ratio, point_number}
use Rattle.bounds_model.specs.AnswerText.LineFormats.{Values}
use Rattle.bounds_model.specs.AnswerText.Formats.{counted, counts_after}
use Rattle.bounds_model.specs.AnswerText.Kinds.{four_kind}
use Rattle.answer_lines.specs.Lines.{lines_left}
use Rattle.witness_format.specs.Bodies.{leaf_values}
use Rattle.witness_format.proofs.KindTexts.{part_read, body_read}
use Rattle.witness_format.proofs.SaidAnswers.{four_is}
use Rattle.witness_format.proofs.four.read_four.Goals as goal

pub returns : goal.returns
returns c =
    let squares = counted (record { word = codes "squares"; low = 4; high = 4 }) 0 (plane_ratio ∷ []) in
    let leaves = counted (record { word = codes "leaves"; low = 0; high = 16000 }) 0 (point_number ∷ point_number ∷ []) in
    let before = lines_left c.args.text.now in
    let between = lines_left c.read_counted.new.text in
    let behind = lines_left c.read_listed.new.text in
    let centres_read : List (Values (plane_ratio ∷ [])) = map (λ p. (p, tt)) c.in_ok-squares.squares.items in
    body_read four_kind c.args.size before _ behind _
    (part_read squares (leaves ∷ []) [] before centres_read between _ behind c.in_ok-squares.ensures
    (part_read leaves [] (counts_after squares centres_read []) between (map leaf_values c.in_ok-leaves.leaves) behind tt behind c.in_ok-leaves.ensures.lines refl))
    (four_is (record { size = c.args.size; squares = c.in_ok-squares.squares; leaves = c.in_ok-leaves.leaves }))

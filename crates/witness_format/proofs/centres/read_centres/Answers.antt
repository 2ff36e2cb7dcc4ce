use Rattle.std.proofs.Common.{refl, [], ◌∷◌, codes, map, List}
use Rattle.bounds_model.specs.AnswerText.Fields.{plane_ratio, point_number}
use Rattle.bounds_model.specs.AnswerText.LineFormats.{Values}
use Rattle.bounds_model.specs.AnswerText.Formats.{counted, counts_after}
use Rattle.bounds_model.specs.AnswerText.Kinds.{centres_kind}
use Rattle.answer_lines.specs.Lines.{lines_left}
use Rattle.witness_format.proofs.KindTexts.{part_read, body_read}
use Rattle.witness_format.proofs.SaidAnswers.{centres_is}
use Rattle.witness_format.proofs.centres.read_centres.Goals as goal

pub returns : goal.returns
returns c =
    let squares = counted (record { word = codes "squares"; low = 1; high = 3 }) 0 (plane_ratio ∷ []) in
    let leaves = counted (record { word = codes "leaves"; low = 0; high = 16 }) 0 (point_number ∷ point_number ∷ []) in
    let before = lines_left c.args.text.now in
    let between = lines_left c.read_counted.new.text in
    let behind = lines_left c.read_counted-2.new.text in
    let centres_read : List (Values (plane_ratio ∷ [])) = map (λ p. (p, tt)) c.in_ok-squares.squares.items in
    body_read centres_kind c.args.size before _ behind _
    (part_read squares (leaves ∷ []) [] before centres_read between _ behind c.in_ok-squares.ensures (part_read leaves [] (counts_after squares centres_read []) between _ behind tt behind c.in_ok-leaves.ensures refl))
    (centres_is (record { size = c.args.size; squares = c.in_ok-squares.squares; leaves = c.in_ok-leaves.leaves }))

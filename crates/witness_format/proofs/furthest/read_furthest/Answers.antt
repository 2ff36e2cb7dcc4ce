use Rattle.std.proofs.Common.{refl, map, [], ◌∷◌, codes}
use Rattle.bounds_model.specs.Ranges.{point_limit}
use Rattle.bounds_model.specs.AnswerText.Fields.{bounded, point_number}
use Rattle.bounds_model.specs.AnswerText.Formats.{counted}
use Rattle.bounds_model.specs.AnswerText.Kinds.{furthest_kind}
use Rattle.answer_lines.specs.Lines.{lines_left}
use Rattle.witness_format.specs.Bodies.{entry_values}
use Rattle.witness_format.proofs.KindTexts.{part_read, body_read}
use Rattle.witness_format.proofs.SaidAnswers.{furthest_is}
use Rattle.witness_format.proofs.furthest.read_furthest.Goals as goal

pub returns : goal.returns
returns c =
    let corners = counted (record { word = codes "corners"; low = 1; high = 10000 }) 0 (point_number ∷ bounded 0 point_limit ∷ []) in
    let before = lines_left c.args.text.now in
    let behind = lines_left c.read_listed.new.text in
    body_read furthest_kind c.args.size before _ behind _
    (part_read corners [] [] before (map entry_values c.in_ok-entries.entries) behind tt behind c.in_ok-entries.ensures.lines refl)
    (furthest_is (record { size = c.args.size; entries = c.in_ok-entries.entries }))

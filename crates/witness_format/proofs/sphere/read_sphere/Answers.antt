use Rattle.std.proofs.Common.{refl, [], ◌∷◌, codes}
use Rattle.bounds_model.specs.AnswerText.Fields.{space_ratio}
use Rattle.bounds_model.specs.AnswerText.LineFormats.{titled}
use Rattle.bounds_model.specs.AnswerText.Formats.{line}
use Rattle.bounds_model.specs.AnswerText.Kinds.{sphere_kind, supports}
use Rattle.answer_lines.specs.Lines.{lines_left}
use Rattle.witness_format.proofs.KindTexts.{part_read, body_read}
use Rattle.witness_format.proofs.SaidAnswers.{sphere_is}
use Rattle.witness_format.proofs.sphere.read_sphere.Goals as goal

pub returns : goal.returns
returns c =
    let center = line (titled (codes "center") (space_ratio ∷ [])) in
    let before = lines_left c.args.text.now in
    let between = lines_left c.read_titled.new.text in
    let behind = lines_left c.read_counted.new.text in
    body_read sphere_kind c.args.size before _ behind _
    (part_read center (supports 4 ∷ []) [] before (c.in_ok-center.center, tt) between _ behind c.in_ok-center.ensures (part_read (supports 4) [] [] between _ behind tt behind c.in_ok-supports.ensures refl))
    (sphere_is (record { size = c.args.size; center = c.in_ok-center.center; supports = c.in_ok-supports.supports }))

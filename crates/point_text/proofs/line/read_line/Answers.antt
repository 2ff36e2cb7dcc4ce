use Rattle.std.proofs.Common.{subst}
use Rattle.bounds_model.specs.PointText.{fields_of, fields_meaning}
use Rattle.point_text.specs.Lines.{Means, uncommented}
use Rattle.point_text.proofs.SaidLines.{said_as_point}
use Rattle.point_text.proofs.line.read_line.Goals as goal

pub returns-in_default : goal.returns-in_default
returns-in_default g c =
    let say = g.P.TextPoint.numbers_meaning in
    let said = said_as_point say g.P.TextPoint.all_numbers (fields_of (uncommented c.without_return-line.result.now)) c.read_fields.result c.read_fields.ensures c.in_default.not-Bad in
    subst (λ bytes. Means c.read_fields.result (fields_meaning say (fields_of (uncommented bytes)))) c.without_return-line.ensures said

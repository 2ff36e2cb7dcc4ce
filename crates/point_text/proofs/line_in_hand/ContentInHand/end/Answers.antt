use Rattle.std.proofs.Common.{◌∙◌, ap}
use Rattle.point_text.specs.InHand.{filled}
use Rattle.point_text.proofs.Linewise.{field_some, filled_more}
use Rattle.point_text.proofs.line_in_hand.ContentInHand.end.Goals as goal

pub returns-in_default : goal.returns-in_default
returns-in_default c bytes is =
    let (whole, last, parts, fields, field) = is in
    let some = field_some c.args.self.field last field c.in_default.not-Empty in
    rw (ap filled parts ∙ filled_more whole last some) (c.with.ensures (filled whole) last fields (c.end.ensures last field))

use Rattle.std.proofs.Common.{◌++◌, ◌∷◌, [], codes}
use Rattle.point_text.proofs.Linewise.{comment_more, no_comment_returned}
use Rattle.point_text.proofs.line_in_hand.LineInHand.with_byte.Goals as goal

pub returns-in-Returned : goal.returns-in-Returned
returns-in-Returned c bytes is =
    let (before, same, none, content) = rw c.in-Returned.is at is in
    rw same (c.opened-in-Returned.ensures (before ++ codes "\r") (no_comment_returned before none) (c.with.ensures before content))

pub returns-in-Commented : goal.returns-in-Commented
returns-in-Commented c bytes is = comment_more c.in-Commented.content bytes (c.args.byte ∷ []) (rw c.in-Commented.is at is)

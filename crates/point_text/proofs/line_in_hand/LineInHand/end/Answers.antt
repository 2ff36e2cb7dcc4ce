use Rattle.point_text.proofs.Linewise.{content_open, content_returned, content_commented}
use Rattle.point_text.proofs.line_in_hand.LineInHand.end.Goals as goal

pub returns-in-Open : goal.returns-in-Open
returns-in-Open c bytes is =
    let (none, stays, in_hand) = rw c.in-Open.is at is in
    rw (content_open bytes none stays) (c.end.ensures bytes in_hand)

pub returns-in-Returned : goal.returns-in-Returned
returns-in-Returned c bytes is =
    let (before, same, none, in_hand) = rw c.in-Returned.is at is in
    rw (same, content_returned before none) (c.end-in-Returned.ensures before in_hand)

pub returns-in-Commented : goal.returns-in-Commented
returns-in-Commented c bytes is =
    let (before, comment, same, none, in_hand) = rw c.in-Commented.is at is in
    rw (same, content_commented before comment none) (c.end-in-Commented.ensures before in_hand)

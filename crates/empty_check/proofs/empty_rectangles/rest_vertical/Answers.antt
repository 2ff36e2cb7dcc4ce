use Rattle.std.proofs.Common.{SFits, w32, rules}
use Rattle.answers.specs.Answers.{blocker_of}
use Rattle.empty_rectangle.specs.Points.{points_in}
use Rattle.empty_check.proofs.Blocking.{coordinate_kept, vertical_same}
use Rattle.empty_check.proofs.empty_rectangles.rest_vertical.Goals as goal

pub returns-then-rests_vertical : goal.returns-then-rests_vertical
returns-then-rests_vertical c =
    let points = points_in c.args.cloud in
    let fits : SFits w32 c.l.result = search rules in
    let fits_frame : SFits w32 c.l-2.result = search rules in
    let fits_2 : SFits w32 c.r.result = search rules in
    let fits_frame_2 : SFits w32 c.r-then-rests_vertical.result = search rules in
    let left = vertical_same points c.args.rectangle.bottom c.args.rectangle.top (blocker_of c.args.left) (coordinate_kept fits_frame c.l-2.ensures.value) (coordinate_kept fits c.l.ensures.value) c.rests_vertical.ensures in
    let right = vertical_same points c.args.rectangle.bottom c.args.rectangle.top (blocker_of c.args.right) (coordinate_kept fits_frame_2 c.r-then-rests_vertical.ensures.value) (coordinate_kept fits_2 c.r.ensures.value) c.rests_vertical-then-rests_vertical.ensures in
    (λ yes. (left.0 c.if-rests_vertical.true, right.0 yes), λ both. right.1 both.1)

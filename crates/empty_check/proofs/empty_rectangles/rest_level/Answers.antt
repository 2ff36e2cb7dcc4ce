use Rattle.std.proofs.Common.{SFits, w32, rules}
use Rattle.answers.specs.Answers.{blocker_of}
use Rattle.empty_rectangle.specs.Points.{points_in}
use Rattle.empty_check.proofs.Blocking.{coordinate_kept, level_same}
use Rattle.empty_check.proofs.empty_rectangles.rest_level.Goals as goal

pub returns-then-rests_level : goal.returns-then-rests_level
returns-then-rests_level c =
    let points = points_in c.args.cloud in
    let fits : SFits w32 c.b.result = search rules in
    let fits_frame : SFits w32 c.b-2.result = search rules in
    let fits_2 : SFits w32 c.t.result = search rules in
    let fits_frame_2 : SFits w32 c.t-then-rests_level.result = search rules in
    let bottom = level_same points c.args.rectangle.left c.args.rectangle.right (blocker_of c.args.bottom) (coordinate_kept fits_frame c.b-2.ensures.value) (coordinate_kept fits c.b.ensures.value) c.rests_level.ensures in
    let top = level_same points c.args.rectangle.left c.args.rectangle.right (blocker_of c.args.top) (coordinate_kept fits_frame_2 c.t-then-rests_level.ensures.value) (coordinate_kept fits_2 c.t.ensures.value) c.rests_level-then-rests_level.ensures in
    (λ yes. (bottom.0 c.if-rests_level.true, top.0 yes), λ both. top.1 both.1)

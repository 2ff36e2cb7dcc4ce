use Rattle.std.proofs.Common.{◌≡◌, arith, to_z, of_z, w32, w64, SFits, to_z-of_z, rules}
use Rattle.std.specs.Int.{w128}
use Rattle.std.proofs.lemmas.Int.{ints}
use Rattle.bounds_model.specs.EmptyRectangle.{Box, IsFrame}
use Rattle.answers.specs.Answers.{empty_of}
use Rattle.empty_check.proofs.Blocking.{coordinate_kept}
use Rattle.empty_check.proofs.RectanglePassing.{between, inside, frame_made}
use Rattle.empty_check.proofs.empty_rectangles.rectangle_in.Goals as goal

pub returns-in_err-r : goal.returns-in_err-r
returns-in_err-r c =
    let l : SFits w32 c.l-2.result = search rules in
    let r : SFits w32 c.r-2.result = search rules in
    let z : SFits w128 c.args.a.now.r = search rules in
    rw c.from_residual-in_err-r.ensures (λ lies. c.in_err-r.ensures (between (coordinate_kept l c.l-2.ensures.value) (coordinate_kept r c.r-2.ensures.value) (to_z-of_z z) (omega (arith, ints, lies.in_left, lies.wide)) lies.in_right))

pub returns-in_err-b : goal.returns-in_err-b
returns-in_err-b c =
    let b : SFits w32 c.b.result = search rules in
    let t : SFits w32 c.t.result = search rules in
    let z : SFits w128 c.args.a.now.b = search rules in
    rw c.from_residual-in_err-b.ensures (λ lies. c.in_err-b.ensures (between (coordinate_kept b c.b.ensures.value) (coordinate_kept t c.t.ensures.value) (to_z-of_z z) lies.in_bottom (omega (arith, ints, lies.high, lies.in_top))))

pub returns-in_err-t : goal.returns-in_err-t
returns-in_err-t c =
    let b : SFits w32 c.b-2.result = search rules in
    let t : SFits w32 c.t-2.result = search rules in
    let z : SFits w128 c.args.a.now.t = search rules in
    rw c.from_residual-in_err-t.ensures (λ lies. c.in_err-t.ensures (between (coordinate_kept b c.b-2.ensures.value) (coordinate_kept t c.t-2.ensures.value) (to_z-of_z z) (omega (arith, ints, lies.in_bottom, lies.high)) lies.in_top))

pub returns : goal.returns
returns c =
    let box : Box = (empty_of c.args.a.now).box in
    let is : IsFrame c.args.frame = search rules in
    let low_l : SFits w32 c.l.result = search rules in
    let high_l : SFits w32 c.r.result = search rules in
    let wide_l : SFits w128 c.args.a.now.l = search rules in
    let fits_l : SFits w64 c.in_ok-l.l = search rules in
    let in_l = inside (to_z-of_z fits_l) c.in_ok-l.ensures.0 (to_z-of_z wide_l) (coordinate_kept low_l c.l.ensures.value) (coordinate_kept high_l c.r.ensures.value) c.in_ok-l.ensures.1 c.in_ok-l.ensures.2 in
    let low_r : SFits w32 c.l-2.result = search rules in
    let high_r : SFits w32 c.r-2.result = search rules in
    let wide_r : SFits w128 c.args.a.now.r = search rules in
    let fits_r : SFits w64 c.in_ok-r.r = search rules in
    let in_r = inside (to_z-of_z fits_r) c.in_ok-r.ensures.0 (to_z-of_z wide_r) (coordinate_kept low_r c.l-2.ensures.value) (coordinate_kept high_r c.r-2.ensures.value) c.in_ok-r.ensures.1 c.in_ok-r.ensures.2 in
    let low_b : SFits w32 c.b.result = search rules in
    let high_b : SFits w32 c.t.result = search rules in
    let wide_b : SFits w128 c.args.a.now.b = search rules in
    let fits_b : SFits w64 c.in_ok-b.b = search rules in
    let in_b = inside (to_z-of_z fits_b) c.in_ok-b.ensures.0 (to_z-of_z wide_b) (coordinate_kept low_b c.b.ensures.value) (coordinate_kept high_b c.t.ensures.value) c.in_ok-b.ensures.1 c.in_ok-b.ensures.2 in
    let low_t : SFits w32 c.b-2.result = search rules in
    let high_t : SFits w32 c.t-2.result = search rules in
    let wide_t : SFits w128 c.args.a.now.t = search rules in
    let fits_t : SFits w64 c.in_ok-t.t = search rules in
    let in_t = inside (to_z-of_z fits_t) c.in_ok-t.ensures.0 (to_z-of_z wide_t) (coordinate_kept low_t c.b-2.ensures.value) (coordinate_kept high_t c.t-2.ensures.value) c.in_ok-t.ensures.1 c.in_ok-t.ensures.2 in
    let built : Box = record { left = to_z w64 (of_z w64 c.in_ok-l.l); bottom = to_z w64 (of_z w64 c.in_ok-b.b); right = to_z w64 (of_z w64 c.in_ok-r.r); top = to_z w64 (of_z w64 c.in_ok-t.t) } in
    let same : built ≡ box = cc (in_l.0, in_b.0, in_r.0, in_t.0) in
    frame_made c.args.frame box built c.new.result is same in_l.1 in_l.2 in_r.1 in_r.2 in_b.1 in_b.2 in_t.1 in_t.2 c.new.ensures.bounds c.new.ensures.frame

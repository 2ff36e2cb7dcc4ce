use Rattle.std.proofs.Common.{sym, subst, ◌≡◌, ◌+◌, ◌∷◌, [], ◌++◌, length, arith}
use Rattle.std.specs.Prelude.{None}
use Rattle.bounded_coords.specs.Clouds.{points_of}
use Rattle.corner_squares.specs.Extents.{IsFound}
use Rattle.centres_check.specs.CornerBoxes.{square_in}
use Rattle.centres_check.proofs.BoxesBeside.{beside_more, beside_same, beside_all, square_is, each_of_four}
use Rattle.centres_check.proofs.boxes.boxes_beside.Goals as goal
use Rattle.centres_check.proofs.boxes.boxes_beside.Goals.{then-not-any_contains, else-not-any_contains}

pub points-preserved : goal.points-preserved
points-preserved c =
    let points = points_of c.args.cloud in
    let placed = c.args.placed.now in
    let p = c.at-p.result.now in
    elim c.if-not-any_contains.branch [
      | then-not-any_contains w ↦ record {
        first = subst (IsFound points (placed ++ c.corner_square-lower_left.result ∷ []) (c.points.i + 1)) (sym w.first-is)
            (beside_more points placed c.corner_square-lower_left.result c.points.i p c.points.first w.grown_outside-first.result c.at-p.ensures (λ covered. let yes = c.any_contains.ensures.1 covered in let no = w.if-not-any_contains.true in absurd (cc (yes, no)))
            c.points.invariant.first w.grown_outside-first.ensures);
        second = subst (IsFound points (placed ++ c.corner_square-lower_right.result ∷ []) (c.points.i + 1)) (sym w.second-is)
            (beside_more points placed c.corner_square-lower_right.result c.points.i p c.points.second w.grown_outside-second.result c.at-p.ensures (λ covered. let yes = c.any_contains.ensures.1 covered in let no = w.if-not-any_contains.true in absurd (cc (yes, no)))
            c.points.invariant.second w.grown_outside-second.ensures);
        third = subst (IsFound points (placed ++ c.corner_square-upper_left.result ∷ []) (c.points.i + 1)) (sym w.third-is)
            (beside_more points placed c.corner_square-upper_left.result c.points.i p c.points.third w.grown_outside-third.result c.at-p.ensures (λ covered. let yes = c.any_contains.ensures.1 covered in let no = w.if-not-any_contains.true in absurd (cc (yes, no)))
            c.points.invariant.third w.grown_outside-third.ensures);
        fourth = subst (IsFound points (placed ++ c.corner_square-upper_right.result ∷ []) (c.points.i + 1)) (sym w.fourth-is)
            (beside_more points placed c.corner_square-upper_right.result c.points.i p c.points.fourth w.grown_outside-fourth.result c.at-p.ensures (λ covered. let yes = c.any_contains.ensures.1 covered in let no = w.if-not-any_contains.true in absurd (cc (yes, no)))
            c.points.invariant.fourth w.grown_outside-fourth.ensures);
      }
      | else-not-any_contains w ↦ record {
        first = subst (IsFound points (placed ++ c.corner_square-lower_left.result ∷ []) (c.points.i + 1)) (sym w.first-is)
            (beside_same points placed c.corner_square-lower_left.result c.points.i p c.points.first c.at-p.ensures (c.any_contains.ensures.0 w.if-not-any_contains.false) c.points.invariant.first);
        second = subst (IsFound points (placed ++ c.corner_square-lower_right.result ∷ []) (c.points.i + 1)) (sym w.second-is)
            (beside_same points placed c.corner_square-lower_right.result c.points.i p c.points.second c.at-p.ensures (c.any_contains.ensures.0 w.if-not-any_contains.false) c.points.invariant.second);
        third = subst (IsFound points (placed ++ c.corner_square-upper_left.result ∷ []) (c.points.i + 1)) (sym w.third-is)
            (beside_same points placed c.corner_square-upper_left.result c.points.i p c.points.third c.at-p.ensures (c.any_contains.ensures.0 w.if-not-any_contains.false) c.points.invariant.third);
        fourth = subst (IsFound points (placed ++ c.corner_square-upper_right.result ∷ []) (c.points.i + 1)) (sym w.fourth-is)
            (beside_same points placed c.corner_square-upper_right.result c.points.i p c.points.fourth c.at-p.ensures (c.any_contains.ensures.0 w.if-not-any_contains.false) c.points.invariant.fourth);
      }
    ]

pub returns : goal.returns
returns c =
    let points = points_of c.args.cloud in
    let placed = c.args.placed.now in
    let count = c.len-i-end.ensures.count in
    let past = c.points-test.false in
    let most = c.points.auto.i-end in
    let all : c.points.i ≡ length points = omega (arith, count, past, most) in
    let inv = c.points.invariant in
    each_of_four (λ k found. IsFound points (placed ++ square_in c.args.side k c.args.bounds ∷ []) (length points) found) c.points.first c.points.second c.points.third c.points.fourth None
    (beside_all points placed c.corner_square-lower_left.result c.args.side 0 c.points.i c.args.bounds c.points.first (square_is c.corner_square-lower_left.result c.args.side 0 c.args.bounds c.corner_square-lower_left.ensures.left c.corner_square-lower_left.ensures.bottom c.corner_square-lower_left.ensures.side) all inv.first)
    (beside_all points placed c.corner_square-lower_right.result c.args.side 1 c.points.i c.args.bounds c.points.second (square_is c.corner_square-lower_right.result c.args.side 1 c.args.bounds c.corner_square-lower_right.ensures.left c.corner_square-lower_right.ensures.bottom c.corner_square-lower_right.ensures.side) all inv.second)
    (beside_all points placed c.corner_square-upper_left.result c.args.side 2 c.points.i c.args.bounds c.points.third (square_is c.corner_square-upper_left.result c.args.side 2 c.args.bounds c.corner_square-upper_left.ensures.left c.corner_square-upper_left.ensures.bottom c.corner_square-upper_left.ensures.side) all inv.third)
    (beside_all points placed c.corner_square-upper_right.result c.args.side 3 c.points.i c.args.bounds c.points.fourth (square_is c.corner_square-upper_right.result c.args.side 3 c.args.bounds c.corner_square-upper_right.ensures.left c.corner_square-upper_right.ensures.bottom c.corner_square-upper_right.ensures.side) all inv.fourth)

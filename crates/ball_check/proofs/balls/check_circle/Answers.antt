use Rattle.std.proofs.Common.{◌≡◌, sym, subst, ap, ◌<◌, ◌≤◌, map, IsTrue, ◌↔◌, get_or}
use Rattle.std.proofs.lemmas.List.{length-map}
use Rattle.bounds_model.specs.Space.{flat}
use Rattle.bounds_model.specs.BallAnswer.{CircleAnswer, PassesCircle}
use Rattle.bounds_model.specs.Asks.{ask_circle, plane}
use Rattle.bounds_model.specs.Answers.{circle}
use Rattle.bounded_coords.specs.Clouds.{points_of}
use Rattle.answers.specs.Answers.{weighted_of, circle_of}
use Rattle.answers.specs.declared.balls.Weighted.{Weighted}
use Rattle.ball_check.proofs.Supports.{some_supports, names_point, first_placed}
use Rattle.ball_sums.proofs.BallPassing.{circle_determined}
use Rattle.ball_check.proofs.BallPassing.{circle_decided}
use Rattle.ball_check.proofs.balls.check_circle.Goals as goal

pub at-requires : goal.at-requires
at-requires c =
    let limits = c.in-Some.ensures.0.limits in
    let supports = c.as_slice-supports.result.now in
    let none : Weighted = record { point = 0; weight = 0 } in
    subst (λ n. (get_or supports 0 none).point < n) (length-map (points_of c.args.cloud) flat) (names_point supports 0 none limits.numbers (some_supports supports limits.some))

pub returns-in-Some-clause-passes : goal.returns-in-Some-clause-passes
returns-in-Some-clause-passes c =
    let points = points_of c.args.cloud in
    let supports = c.as_slice-supports.result.now in
    let none : Weighted = record { point = 0; weight = 0 } in
    let a : CircleAnswer = record { size = c.args.a.now.size; centre = c.args.a.now.center; supports = map weighted_of supports } in
    let is : a ≡ circle_of c.args.a.now = ap (λ ss. let b : CircleAnswer = record { size = c.args.a.now.size; centre = c.args.a.now.center; supports = map weighted_of ss } in b) c.as_slice-supports.ensures.value in
    let first = first_placed flat points supports none c.at.result.now (some_supports supports c.in-Some.ensures.0.limits.some) c.at.ensures in
    let three = subst (λ n. n ≤ 3) (sym (length-map supports weighted_of)) c.as_slice-supports.ensures.fits in
    subst (λ b. IsTrue c.is_plane_centre.result ↔ PassesCircle points b) is (circle_decided points a c.in-Some.totals c.at.result.now c.args.cloud.limited three c.in-Some.ensures first c.is_plane_centre.ensures)

pub returns-in-Some-clause-best : goal.returns-in-Some-clause-best
returns-in-Some-clause-best c = λ yes. c.passing_answers_are_best.ensures ask_circle (plane (points_of c.args.cloud)) (circle (circle_of c.args.a.now)) ((returns-in-Some-clause-passes c).0 yes)

pub returns-in-None-clause-passes : goal.returns-in-None-clause-passes
returns-in-None-clause-passes c =
    let points = points_of c.args.cloud in
    let a : CircleAnswer = record { size = c.args.a.now.size; centre = c.args.a.now.center; supports = map weighted_of c.as_slice-supports.result.now } in
    let is : a ≡ circle_of c.args.a.now = ap (λ ss. let b : CircleAnswer = record { size = c.args.a.now.size; centre = c.args.a.now.center; supports = map weighted_of ss } in b) c.as_slice-supports.ensures.value in
    (λ yes. absurd (cc yes), λ p. absurd (c.in-None.ensures (circle_determined points a (subst (PassesCircle points) (sym is) p))))

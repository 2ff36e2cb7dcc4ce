use Rattle.std.proofs.Common.{◌≡◌, sym, subst, ap, ◌<◌, ◌≤◌, map, IsTrue, ◌↔◌, get_or}
use Rattle.std.proofs.lemmas.List.{length-map}
use Rattle.bounds_model.specs.Space.{SpacePoint}
use Rattle.bounds_model.specs.BallAnswer.{SphereAnswer, PassesSphere, first_support}
use Rattle.bounds_model.specs.Asks.{ask_sphere, space}
use Rattle.bounds_model.specs.Answers.{sphere}
use Rattle.bounded_coords.specs.Clouds.{points_of}
use Rattle.answers.specs.Answers.{weighted_of, sphere_of}
use Rattle.answers.specs.declared.balls.Weighted.{Weighted}
use Rattle.ball_sums.specs.DeterminedBalls.{DetermineBall, AreSupportSums}
use Rattle.ball_check.proofs.Supports.{some_supports, names_point, first_placed}
use Rattle.ball_sums.proofs.BallPassing.{sphere_determined}
use Rattle.ball_check.proofs.BallPassing.{sphere_decided, map_same}
use Rattle.ball_check.proofs.balls.check_sphere.Goals as goal

pub at-requires : goal.at-requires
at-requires c =
    let limits = c.in-Some.ensures.0.limits in
    let supports = c.as_slice-supports.result.now in
    let none : Weighted = record { point = 0; weight = 0 } in
    subst (λ n. (get_or supports 0 none).point < n) (length-map (points_of c.args.cloud) (λ (p : SpacePoint). p)) (names_point supports 0 none limits.numbers (some_supports supports limits.some))

pub returns-in-Some-clause-passes : goal.returns-in-Some-clause-passes
returns-in-Some-clause-passes c =
    let points = points_of c.args.cloud in
    let supports = c.as_slice-supports.result.now in
    let none : Weighted = record { point = 0; weight = 0 } in
    let a : SphereAnswer = record { size = c.args.a.now.size; centre = c.args.a.now.center; supports = map weighted_of supports } in
    let is : a ≡ sphere_of c.args.a.now = ap (λ ss. let b : SphereAnswer = record { size = c.args.a.now.size; centre = c.args.a.now.center; supports = map weighted_of ss } in b) c.as_slice-supports.ensures.value in
    let first = subst (λ ps. first_support ps (map weighted_of supports) ≡ c.at.result.now) (map_same points) (first_placed (λ (p : SpacePoint). p) points supports none c.at.result.now (some_supports supports c.in-Some.ensures.0.limits.some) c.at.ensures) in
    let totals = subst (λ ps. DetermineBall 3 ps a.supports a.size × AreSupportSums 3 ps a.supports c.in-Some.totals) (map_same points) c.in-Some.ensures in
    let four = subst (λ n. n ≤ 4) (sym (length-map supports weighted_of)) c.as_slice-supports.ensures.fits in
    subst (λ b. IsTrue c.is_space_centre.result ↔ PassesSphere points b) is (sphere_decided points a c.in-Some.totals c.at.result.now c.args.cloud.limited four totals first c.is_space_centre.ensures)

pub returns-in-Some-clause-best : goal.returns-in-Some-clause-best
returns-in-Some-clause-best c = λ yes. c.passing_answers_are_best.ensures ask_sphere (space (points_of c.args.cloud)) (sphere (sphere_of c.args.a.now)) ((returns-in-Some-clause-passes c).0 yes)

pub returns-in-None-clause-passes : goal.returns-in-None-clause-passes
returns-in-None-clause-passes c =
    let points = points_of c.args.cloud in
    let a : SphereAnswer = record { size = c.args.a.now.size; centre = c.args.a.now.center; supports = map weighted_of c.as_slice-supports.result.now } in
    let is : a ≡ sphere_of c.args.a.now = ap (λ ss. let b : SphereAnswer = record { size = c.args.a.now.size; centre = c.args.a.now.center; supports = map weighted_of ss } in b) c.as_slice-supports.ensures.value in
    (λ yes. absurd (cc yes), λ p. absurd (c.in-None.ensures (subst (λ ps. DetermineBall 3 ps a.supports a.size) (sym (map_same points)) (sphere_determined points a (subst (PassesSphere points) (sym is) p)))))

use Rattle.std.proofs.Common.{◌≡◌, map, subst, sym, arith}
use Rattle.std.proofs.lemmas.List.{length-map, map-id}
use Rattle.bounds_model.specs.Space.{SpacePoint, SamePlace}
use Rattle.bounds_model.specs.BallAnswer.{PassesSphere}
use Rattle.ball_sums.proofs.BallPassing.{sphere_passes}
use Rattle.ball_sums.proofs.Means.{space_mean_is}
use Rattle.corral.specs.Items.{first_points}
use Rattle.corral.specs.Supported.{supports_of, items_of}
use Rattle.answers.specs.Answers.{weighted_of}
use Rattle.min_ball.specs.Balls.{listed, weighted_point}
use Rattle.min_ball.specs.SmallestBalls.{points_in, places_in, support_of}
use Rattle.min_ball.proofs.SupportSums.{point_of_first}
use Rattle.min_ball.proofs.Passing.{few_points}
use Rattle.min_ball.proofs.ball_answers.Ball+Space.answer.Goals as goal

pub returns-clause-passes : goal.returns-clause-passes
returns-clause-passes c =
    let ball = c.args.self.now in
    let points = points_in ball in
    let places = places_in (λ (p : SpacePoint). p) ball in
    let same : places ≡ points = map-id points in
    let support = support_of ball in
    let centre = c.space_centre.result in
    let few_in = few_points (items_of support) in
    let in_place = length-map points (λ (p : SpacePoint). p) in
    let first = point_of_first (λ (p : SpacePoint). p) (first_points (items_of support)) (supports_of support) c.first-first.result.now c.first-first.ensures in
    let few = support.are_members.count.at_most in
    let as_many = length-map (supports_of support) weighted_point in
    subst (λ ps. PassesSphere ps (record { size = ball.size; centre = centre; supports = map weighted_of c.weighted.result.items })) same
    (subst (λ s. PassesSphere places (record { size = ball.size; centre = centre; supports = s })) (sym c.weighted.ensures)
    (sphere_passes places (record { size = ball.size; centre = centre; supports = listed support }) (omega arith) (omega arith) ball.determined c.space_centre.ensures.lowest
    (subst (SamePlace centre) (space_mean_is places (listed support) ball.sums c.first-first.result.now ball.summed.sums.sums first) c.space_centre.ensures.place)))

use Rattle.std.proofs.Common.{subst, sym, arith}
use Rattle.std.proofs.lemmas.List.{length-map}
use Rattle.bounds_model.specs.Space.{SamePlace, flat, flat_ratio}
use Rattle.bounds_model.specs.BallAnswer.{PassesCircle}
use Rattle.ball_sums.proofs.BallPassing.{circle_passes}
use Rattle.ball_sums.proofs.Means.{plane_mean_is}
use Rattle.corral.specs.Items.{first_points}
use Rattle.corral.specs.Supported.{supports_of, items_of}
use Rattle.min_ball.specs.Balls.{listed, weighted_point}
use Rattle.min_ball.specs.SmallestBalls.{points_in, support_of}
use Rattle.min_ball.proofs.SupportSums.{point_of_first}
use Rattle.min_ball.proofs.Passing.{few_points}
use Rattle.min_ball.proofs.ball_answers.Ball+Plane.answer.Goals as goal

pub returns-clause-passes : goal.returns-clause-passes
returns-clause-passes c =
    let ball = c.args.self.now in
    let points = points_in ball in
    let support = support_of ball in
    let centre = c.plane_centre.result in
    let first = point_of_first flat (first_points (items_of support)) (supports_of support) c.first-first.result.now c.first-first.ensures in
    let few = support.are_members.count.at_most in
    let as_many = length-map (supports_of support) weighted_point in
    subst (λ s. PassesCircle points (record { size = ball.size; centre = centre; supports = s })) (sym c.weighted.ensures)
    (circle_passes points (record { size = ball.size; centre = centre; supports = listed support }) (few_points (items_of support)) (omega arith) ball.determined c.plane_centre.ensures.lowest
    (subst (SamePlace (flat_ratio centre)) (plane_mean_is points (listed support) ball.sums c.first-first.result.now ball.summed.sums.sums first) c.plane_centre.ensures.place))

use Rattle.std.proofs.Common.{arith}
use Rattle.bounded_coords.specs.Clouds.{points_of}
use Rattle.corner_squares.specs.LeastPoints.{point_of}
use Rattle.corner_squares.proofs.LeastPlaces.{least_of_one, least_next, least_of_all, lesser_point}
use Rattle.centres_check.proofs.heights.least_point.Goals as goal

pub points-init : goal.points-init
points-init c = record {
  least = least_of_one (points_of c.args.cloud) _ (point_of c.of-least.result) c.at.ensures c.of-least.ensures.place;
  x = c.of-least.ensures.x;
  y = c.of-least.ensures.y;
}

pub points-preserved : goal.points-preserved
points-preserved c = record {
  least = least_next (points_of c.args.cloud) c.points.i (point_of c.points.least) c.at-in-points.result.now (point_of c.or-least.result) c.points.invariant.least c.at-in-points.ensures (lesser_point c.points.least c.at-in-points.result.now c.or-least.result c.or-least.ensures.lesser);
  x = c.or-least.ensures.x;
  y = c.or-least.ensures.y;
}

pub returns : goal.returns
returns c =
    let count = c.len-i-end.ensures.count in
    let some = c.len-i-end.ensures.not_empty in
    let past = c.points-test.false in
    let most = c.points.auto.i-end some in
    record {
      is_least = least_of_all (points_of c.args.cloud) c.points.i (point_of c.points.least) (omega (arith, count, past, most)) c.points.invariant.least;
      x = c.points.invariant.x;
      y = c.points.invariant.y;
    }

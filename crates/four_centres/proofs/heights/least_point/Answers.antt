use Rattle.std.proofs.Common.{arith}
use Rattle.bounded_coords.specs.Clouds.{counted_points}
use Rattle.corner_squares.specs.LeastPoints.{point_of}
use Rattle.corner_squares.proofs.LeastPlaces.{least_of_one, least_next, least_of_all, lesser_point}
use Rattle.four_centres.proofs.heights.least_point.Goals as goal

pub points-init : goal.points-init
points-init g c = record {
  least = least_of_one (counted_points c.args.cloud) _ (point_of c.of-least.result) c.point.ensures.point c.of-least.ensures.place;
  x = c.of-least.ensures.x;
  y = c.of-least.ensures.y;
  steps = let s = c.point.ensures.step in omega (arith, s);
}

pub points-preserved : goal.points-preserved
points-preserved g c = record {
  least = least_next (counted_points c.args.cloud) c.points.i (point_of c.points.least) c.point-in-points.result.now (point_of c.or-least.result) c.points.invariant.least c.point-in-points.ensures.point (lesser_point c.points.least c.point-in-points.result.now c.or-least.result c.or-least.ensures.lesser);
  x = c.or-least.ensures.x;
  y = c.or-least.ensures.y;
  steps = let h = c.points.invariant.steps in let s = c.point-in-points.ensures.step in omega (arith, h, s);
}

pub returns-clause-least : goal.returns-clause-least
returns-clause-least g c =
    let count = c.len-i-end.ensures.count in
    let some = c.len-i-end.ensures.not_empty in
    let past = c.points-test.false in
    let most = c.points.auto.i-end some in
    record {
      is_least = least_of_all (counted_points c.args.cloud) c.points.i (point_of c.points.least) (omega (arith, count, past, most)) c.points.invariant.least;
      x = c.points.invariant.x;
      y = c.points.invariant.y;
    }

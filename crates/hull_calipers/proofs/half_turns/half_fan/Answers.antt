use Rattle.std.proofs.Common.{refl, sym, subst, ◌≤◌, pos, negsuc, map}
use Rattle.hull_calipers.specs.CornerLists.{corners_in, numbers_in, points_in}
use Rattle.answers.specs.Answers.{half_cone_of, half_fan_of}
use Rattle.hull_calipers.specs.Fans.{IsHalfPath, IsExtremeHalfCone, IsHalfDirection}
use Rattle.hull_calipers.proofs.Turning.{starts_left}
use Rattle.hull_calipers.proofs.ModelCorners.{hull_listed}
use Rattle.hull_calipers.proofs.Paths.{path_none}
use Rattle.hull_calipers.proofs.FanDirections.{half_direction_east}
use Rattle.hull_calipers.proofs.PlainDirections.{half_holds}
use Rattle.hull_calipers.proofs.Complete.{half_plain}
use Rattle.hull_calipers.proofs.FewDirections.{few_half}
use Rattle.bounds_model.specs.Fans.{half_directions, east, west}
use Rattle.hull_calipers.proofs.FanRanges.{half_ranges}
use Rattle.std.proofs.lemmas.List.{length-map}
use Rattle.bounds_model.specs.Plane.{point_at}
use Rattle.hull_calipers.proofs.half_turns.half_fan.Goals as goal

pub start-bottom-requires-clause-start : goal.start-bottom-requires-clause-start
start-bottom-requires-clause-start g c = starts_left (points_in c.args.corners.now) (corners_in c.args.corners.now) c.args.corners.now.hull.around (hull_listed (points_in c.args.corners.now) (numbers_in c.args.corners.now) c.args.corners.now.hull)

pub add_cones-requires-clause-low : goal.add_cones-requires-clause-low
add_cones-requires-clause-low g c = starts_left (points_in c.args.corners.now) (corners_in c.args.corners.now) c.args.corners.now.hull.around (hull_listed (points_in c.args.corners.now) (numbers_in c.args.corners.now) c.args.corners.now.hull)

pub add_cones-requires-clause-path : goal.add_cones-requires-clause-path
add_cones-requires-clause-path g c = subst (λ l. IsHalfPath (points_in c.args.corners.now) (corners_in c.args.corners.now) (map half_cone_of l) east) (sym c.new-cones.ensures)
    (path_none (λ cone. cone.direction) (IsExtremeHalfCone (points_in c.args.corners.now)) (IsHalfDirection (corners_in c.args.corners.now)) (half_direction_east (corners_in c.args.corners.now)))

pub returns-clause-holds : goal.returns-clause-holds
returns-clause-holds g c = half_holds (points_in c.args.corners.now) (corners_in c.args.corners.now) (half_fan_of (record { cones = c.add_cones-2.new.cones; last = record { x = negsuc 0; y = pos 0 } })) c.in_ok-add_cones-2.ensures.path refl

pub returns-clause-plain : goal.returns-clause-plain
returns-clause-plain g c = half_plain (points_in c.args.corners.now) (corners_in c.args.corners.now) (half_fan_of (record { cones = c.add_cones-2.new.cones; last = record { x = negsuc 0; y = pos 0 } }))
    c.args.corners.now.hull.around (hull_listed (points_in c.args.corners.now) (numbers_in c.args.corners.now) c.args.corners.now.hull) c.in_ok-add_cones-2.ensures.path refl c.in_ok-add_cones-2.ensures.begun

pub returns-clause-few : goal.returns-clause-few
returns-clause-few g c = few_half (corners_in c.args.corners.now) (half_directions (half_fan_of (record { cones = c.add_cones-2.new.cones; last = record { x = negsuc 0; y = pos 0 } })))
    (half_plain (points_in c.args.corners.now) (corners_in c.args.corners.now) (half_fan_of (record { cones = c.add_cones-2.new.cones; last = record { x = negsuc 0; y = pos 0 } }))
    c.args.corners.now.hull.around (hull_listed (points_in c.args.corners.now) (numbers_in c.args.corners.now) c.args.corners.now.hull) c.in_ok-add_cones-2.ensures.path refl c.in_ok-add_cones-2.ensures.begun)

pub returns-clause-ranges : goal.returns-clause-ranges
returns-clause-ranges g c = half_ranges (points_in c.args.corners.now) (corners_in c.args.corners.now) (half_fan_of (record { cones = c.add_cones-2.new.cones; last = record { x = negsuc 0; y = pos 0 } })) c.in_ok-add_cones-2.ensures.path refl (returns-clause-few g c)
    (subst (λ n. n ≤ 10000) (sym (length-map (numbers_in c.args.corners.now) (point_at (points_in c.args.corners.now)))) c.args.corners.now.few) c.args.corners.now.cloud.cloud.limited

use Rattle.std.proofs.Common.{refl, sym, subst, ◌≤◌, pos, map}
use Rattle.bounds_model.specs.Fans.{quarter_directions, north}
use Rattle.hull_calipers.specs.CornerLists.{corners_in, numbers_in, points_in}
use Rattle.answers.specs.Answers.{quarter_cone_of, quarter_fan_of}
use Rattle.hull_calipers.proofs.Turning.{starts_left}
use Rattle.hull_calipers.proofs.ModelCorners.{hull_listed}
use Rattle.hull_calipers.proofs.PlainDirections.{quarter_holds, quarter_short}
use Rattle.hull_calipers.proofs.Complete.{quarter_plain}
use Rattle.hull_calipers.proofs.FewDirections.{few_quarter}
use Rattle.hull_calipers.proofs.FanRanges.{quarter_ranges}
use Rattle.std.proofs.lemmas.List.{length-map}
use Rattle.bounds_model.specs.Plane.{point_at}
use Rattle.hull_calipers.proofs.quarter_turns.quarter_fan.Goals as goal

pub start-bottom-requires-clause-start : goal.start-bottom-requires-clause-start
start-bottom-requires-clause-start g c = starts_left (points_in c.args.corners.now) (corners_in c.args.corners.now) c.args.corners.now.hull.around (hull_listed (points_in c.args.corners.now) (numbers_in c.args.corners.now) c.args.corners.now.hull)

pub returns-clause-holds : goal.returns-clause-holds
returns-clause-holds g c = quarter_holds (points_in c.args.corners.now) (corners_in c.args.corners.now) (quarter_fan_of (record { cones = c.in_ok-cones.cones; last = record { x = pos 0; y = pos 1 } })) c.in_ok-cones.ensures.path refl

pub returns-clause-plain : goal.returns-clause-plain
returns-clause-plain g c = quarter_plain (points_in c.args.corners.now) (corners_in c.args.corners.now) (quarter_fan_of (record { cones = c.in_ok-cones.cones; last = record { x = pos 0; y = pos 1 } }))
    c.args.corners.now.hull.around (hull_listed (points_in c.args.corners.now) (numbers_in c.args.corners.now) c.args.corners.now.hull) c.in_ok-cones.ensures.path refl

pub returns-clause-few : goal.returns-clause-few
returns-clause-few g c = few_quarter (corners_in c.args.corners.now) (quarter_directions (quarter_fan_of (record { cones = c.in_ok-cones.cones; last = record { x = pos 0; y = pos 1 } })))
    (quarter_plain (points_in c.args.corners.now) (corners_in c.args.corners.now) (quarter_fan_of (record { cones = c.in_ok-cones.cones; last = record { x = pos 0; y = pos 1 } }))
    c.args.corners.now.hull.around (hull_listed (points_in c.args.corners.now) (numbers_in c.args.corners.now) c.args.corners.now.hull) c.in_ok-cones.ensures.path refl)

pub returns-clause-short : goal.returns-clause-short
returns-clause-short g c = quarter_short (points_in c.args.corners.now) (corners_in c.args.corners.now) (quarter_fan_of (record { cones = c.in_ok-cones.cones; last = record { x = pos 0; y = pos 1 } })) c.in_ok-cones.ensures.path

pub returns-clause-ranges : goal.returns-clause-ranges
returns-clause-ranges g c = quarter_ranges (points_in c.args.corners.now) (corners_in c.args.corners.now) (quarter_fan_of (record { cones = c.in_ok-cones.cones; last = record { x = pos 0; y = pos 1 } })) c.in_ok-cones.ensures.path refl (returns-clause-few g c)
    (subst (λ n. n ≤ 10000) (sym (length-map (numbers_in c.args.corners.now) (point_at (points_in c.args.corners.now)))) c.args.corners.now.few) c.args.corners.now.cloud.cloud.limited

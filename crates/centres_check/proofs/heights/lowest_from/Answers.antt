use Rattle.std.proofs.Common.{rules, ◌+◌, SFits, w32}
use Rattle.std.proofs.lemmas.Int.{to_z-of_z}
use Rattle.bounded_coords.specs.Clouds.{points_of}
use Rattle.centres_check.specs.Heights.{IsLowestUpTo}
use Rattle.centres_check.proofs.Lowest.{lowest_next}
use Rattle.centres_check.proofs.heights.lowest_from.Goals as goal

pub points-preserved : goal.points-preserved
points-preserved c =
    let points = points_of c.args.cloud in
    let fits_from : SFits w32 c.args.from = c.ranges.from in
    let fits_to : SFits w32 c.args.to = c.ranges.to in
    let fits : SFits w32 c.y.result = search rules in
    let kept : IsLowestUpTo points c.points.i c.args.from c.args.to c.points.lowest = simp to_z-of_z at c.points.invariant in
    let next : IsLowestUpTo points (c.points.i + 1) c.args.from c.args.to c.lower-lowest.result = lowest_next points c.points.i c.at.result.now c.args.from c.args.to c.y.result c.points.lowest c.lower-lowest.result kept c.at.ensures c.y.ensures.value (simp to_z-of_z at c.lower-lowest.ensures) in
    simp to_z-of_z next

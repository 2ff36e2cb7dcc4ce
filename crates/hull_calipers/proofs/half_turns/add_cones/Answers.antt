use Rattle.std.proofs.Common.{rules, ◌≡◌, ◌∷◌, [], ◌++◌, ◌∙◌, length, map, ap, subst, sym, refl}
use Rattle.std.proofs.lemmas.List.{map-append, length-map}
use Rattle.hull_calipers.specs.CornerLists.{corners_in, numbers_in, points_in}
use Rattle.answers.specs.Answers.{half_cone_of}
use Rattle.hull_calipers.proofs.ModelCorners.{hull_listed, number_around, some_numbers}
use Rattle.hull_calipers.proofs.AntipodalPairs.{IsNextOfPair, pair_next, pair_candidate, pair_after}
use Rattle.hull_calipers.proofs.HalfTurns.{IsHalfTurning, half_start, half_more, half_falls}
use Rattle.hull_calipers.proofs.half_turns.add_cones.Goals as goal

pub directions-init : goal.directions-init
directions-init g c =
    subst (λ n. IsHalfTurning (points_in c.args.corners.now) (corners_in c.args.corners.now) c.args.side c.args.high_at c.args.low_at (record { x = 1; y = 0 }) c.at-pair.result (map half_cone_of c.args.cones.now) n c.at-pair.new.steps c.args.steps.now)
    (length-map c.args.cones.now half_cone_of)
    (half_start (points_in c.args.corners.now) (corners_in c.args.corners.now) c.args.side c.args.high_at c.args.low_at (record { x = 1; y = 0 }) c.at-pair.result (map half_cone_of c.args.cones.now) c.at-pair.new.steps c.args.steps.now
    c.args.corners.now.hull.around (hull_listed (points_in c.args.corners.now) (numbers_in c.args.corners.now) c.args.corners.now.hull) c.requires.high c.requires.low refl c.requires.path
    c.at-pair.ensures.high_side c.at-pair.ensures.low_side c.at-pair.ensures.high_at c.at-pair.ensures.low_at c.at-pair.ensures.pair c.at-pair.ensures.steps)

pub lowest-direction-requires : goal.lowest-direction-requires
lowest-direction-requires g c = record {
  some = (pair_candidate (points_in c.args.corners.now) (corners_in c.args.corners.now) c.args.side c.args.high_at c.args.low_at c.directions.direction c.next.result c.directions.pair c.directions.invariant.calipers c.directions-test.true c.next.ensures).some;
}

pub follow-pair-requires-clause-direction : goal.follow-pair-requires-clause-direction
follow-pair-requires-clause-direction g c =
    (pair_next (points_in c.args.corners.now) (corners_in c.args.corners.now) c.args.side c.args.high_at c.args.low_at c.directions.direction c.next.result c.lowest-direction.result c.directions.pair c.directions.invariant.calipers c.directions-test.true c.next.ensures
    c.lowest-direction.ensures.scaled c.lowest-direction.ensures.lowest).next.limited

pub directions-smaller : goal.directions-smaller
directions-smaller g c =
    let next : IsNextOfPair c.directions.direction c.lowest-direction.result c.directions.pair
    = pair_next (points_in c.args.corners.now) (corners_in c.args.corners.now) c.args.side c.args.high_at c.args.low_at c.directions.direction c.next.result c.lowest-direction.result c.directions.pair c.directions.invariant.calipers c.directions-test.true c.next.ensures
    c.lowest-direction.ensures.scaled c.lowest-direction.ensures.lowest in
    half_falls (points_in c.args.corners.now) (corners_in c.args.corners.now) c.args.side c.args.high_at c.args.low_at c.directions.direction c.lowest-direction.result c.directions.pair c.follow-pair.result c.directions-test.true next
    (pair_after (points_in c.args.corners.now) (corners_in c.args.corners.now) c.args.side c.args.high_at c.args.low_at c.directions.direction c.lowest-direction.result c.directions.pair c.follow-pair.result
    c.args.corners.now.hull.around (hull_listed (points_in c.args.corners.now) (numbers_in c.args.corners.now) c.args.corners.now.hull) c.directions.invariant.calipers c.directions-test.true next.next next.before c.follow-pair.ensures.pair c.follow-pair.ensures.follows)
    c.follow-pair.ensures.follows

pub directions-preserved : goal.directions-preserved
directions-preserved g c =
    let next : IsNextOfPair c.directions.direction c.lowest-direction.result c.directions.pair
    = pair_next (points_in c.args.corners.now) (corners_in c.args.corners.now) c.args.side c.args.high_at c.args.low_at c.directions.direction c.next.result c.lowest-direction.result c.directions.pair c.directions.invariant.calipers c.directions-test.true c.next.ensures
    c.lowest-direction.ensures.scaled c.lowest-direction.ensures.lowest in
    let pushed : c.push.new.self ≡ c.directions.cones ++ (record { dir = c.dir_from.result; hi = c.number_at.result; lo = c.number_at-in-directions.result }) ∷ [] = search rules in
    let cones : map half_cone_of c.push.new.self ≡ map half_cone_of c.directions.cones ++ half_cone_of (record { dir = c.dir_from.result; hi = c.number_at.result; lo = c.number_at-in-directions.result }) ∷ []
    = ap (map half_cone_of) pushed ∙ map-append half_cone_of c.directions.cones ((record { dir = c.dir_from.result; hi = c.number_at.result; lo = c.number_at-in-directions.result }) ∷ []) in
    let some = some_numbers (points_in c.args.corners.now) (numbers_in c.args.corners.now) c.args.corners.now.hull.around.some in
    subst (λ l. IsHalfTurning (points_in c.args.corners.now) (corners_in c.args.corners.now) c.args.side c.args.high_at c.args.low_at c.lowest-direction.result c.follow-pair.result l (length c.args.cones.now) c.follow-pair.new.steps c.args.steps.now) (sym cones)
    (half_more (points_in c.args.corners.now) (corners_in c.args.corners.now) c.args.side c.args.high_at c.args.low_at c.directions.direction c.lowest-direction.result c.directions.pair c.follow-pair.result
    (map half_cone_of c.directions.cones) (half_cone_of (record { dir = c.dir_from.result; hi = c.number_at.result; lo = c.number_at-in-directions.result })) (length c.args.cones.now) c.directions.steps c.follow-pair.new.steps c.args.steps.now
    c.args.corners.now.hull.around (hull_listed (points_in c.args.corners.now) (numbers_in c.args.corners.now) c.args.corners.now.hull) c.requires.upper c.directions.invariant c.directions-test.true next c.dir_from.ensures
    (number_around (points_in c.args.corners.now) (numbers_in c.args.corners.now) c.directions.pair.high.advance c.number_at.result some c.number_at.ensures.number)
    (number_around (points_in c.args.corners.now) (numbers_in c.args.corners.now) c.directions.pair.low.advance c.number_at-in-directions.result some c.number_at-in-directions.ensures.number)
    (c.number_at.ensures.below, c.number_at-in-directions.ensures.below)
    c.follow-pair.ensures.pair c.follow-pair.ensures.follows c.follow-pair.ensures.steps)

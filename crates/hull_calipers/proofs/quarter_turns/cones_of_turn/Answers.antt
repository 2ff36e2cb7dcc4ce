use Rattle.std.proofs.Common.{rules, ◌≡◌, ◌∷◌, [], ◌++◌, ◌∙◌, map, ap, subst, sym, refl}
use Rattle.std.proofs.lemmas.List.{map-append}
use Rattle.hull_calipers.specs.CornerLists.{corners_in, numbers_in, points_in}
use Rattle.answers.specs.Answers.{quarter_cone_of}
use Rattle.hull_calipers.specs.declared.sides.Side.TheVariants.{Right, Top}
use Rattle.hull_calipers.proofs.ModelCorners.{hull_listed, number_around, some_numbers}
use Rattle.hull_calipers.proofs.Turning.{starts_left}
use Rattle.hull_calipers.proofs.NextDirections.{first_candidate}
use Rattle.hull_calipers.proofs.AntipodalPairs.{IsNextOfPairs, pairs_next, pair_candidate, pair_after}
use Rattle.hull_calipers.proofs.QuarterTurns.{IsQuarterTurning, quarter_start, quarter_more, quarter_falls}
use Rattle.hull_calipers.proofs.quarter_turns.cones_of_turn.Goals as goal

pub directions-init : goal.directions-init
directions-init g c =
    subst (λ l. IsQuarterTurning (points_in c.args.corners.now) (corners_in c.args.corners.now) (record { right = c.args.right; left = 0; top = c.args.top; bottom = c.args.bottom }) (record { x = 1; y = 0 }) c.at-along.result c.at-across.result (map quarter_cone_of l) c.at-across.new.steps c.args.steps.now) (sym c.new-cones.ensures)
    (quarter_start (points_in c.args.corners.now) (corners_in c.args.corners.now) (record { right = c.args.right; left = 0; top = c.args.top; bottom = c.args.bottom }) (record { x = 1; y = 0 }) c.at-along.result c.at-across.result c.at-along.new.steps c.at-across.new.steps c.args.steps.now
    c.args.corners.now.hull.around (hull_listed (points_in c.args.corners.now) (numbers_in c.args.corners.now) c.args.corners.now.hull) c.requires.right
    (starts_left (points_in c.args.corners.now) (corners_in c.args.corners.now) c.args.corners.now.hull.around (hull_listed (points_in c.args.corners.now) (numbers_in c.args.corners.now) c.args.corners.now.hull)) c.requires.top c.requires.bottom refl
    c.at-along.ensures.high_side c.at-along.ensures.low_side c.at-along.ensures.high_at c.at-along.ensures.low_at c.at-along.ensures.pair
    c.at-across.ensures.high_side c.at-across.ensures.low_side c.at-across.ensures.high_at c.at-across.ensures.low_at c.at-across.ensures.pair c.at-along.ensures.steps c.at-across.ensures.steps)

pub lowest-direction-requires : goal.lowest-direction-requires
lowest-direction-requires g c = record {
  some = (first_candidate c.directions.direction c.next.result c.next-in-directions.result c.first.result
      (pair_candidate (points_in c.args.corners.now) (corners_in c.args.corners.now) Right c.args.right 0 c.directions.direction c.next.result c.directions.along c.directions.invariant.along c.directions-test.true c.next.ensures)
      (pair_candidate (points_in c.args.corners.now) (corners_in c.args.corners.now) Top c.args.top c.args.bottom c.directions.direction c.next-in-directions.result c.directions.across c.directions.invariant.across c.directions-test.true c.next-in-directions.ensures) c.first.ensures).some;
}

pub follow-along-requires-clause-direction : goal.follow-along-requires-clause-direction
follow-along-requires-clause-direction g c =
    let next : IsNextOfPairs c.directions.direction c.lowest-direction.result c.directions.along c.directions.across
    = pairs_next (points_in c.args.corners.now) (corners_in c.args.corners.now) Right Top c.args.right 0 c.args.top c.args.bottom c.directions.direction c.next.result c.next-in-directions.result c.first.result c.lowest-direction.result c.directions.along c.directions.across
    c.directions.invariant.along c.directions.invariant.across c.directions-test.true c.next.ensures c.next-in-directions.ensures c.first.ensures c.lowest-direction.ensures.scaled c.lowest-direction.ensures.lowest in
    next.next.limited

pub follow-across-requires-clause-pair : goal.follow-across-requires-clause-pair
follow-across-requires-clause-pair g c = record { high = c.directions.invariant.across.high.caliper; low = c.directions.invariant.across.low.caliper }

pub follow-across-requires-clause-direction : goal.follow-across-requires-clause-direction
follow-across-requires-clause-direction g c =
    let next : IsNextOfPairs c.directions.direction c.lowest-direction.result c.directions.along c.directions.across
    = pairs_next (points_in c.args.corners.now) (corners_in c.args.corners.now) Right Top c.args.right 0 c.args.top c.args.bottom c.directions.direction c.next.result c.next-in-directions.result c.first.result c.lowest-direction.result c.directions.along c.directions.across
    c.directions.invariant.along c.directions.invariant.across c.directions-test.true c.next.ensures c.next-in-directions.ensures c.first.ensures c.lowest-direction.ensures.scaled c.lowest-direction.ensures.lowest in
    next.next.limited

pub directions-smaller : goal.directions-smaller
directions-smaller g c =
    let next : IsNextOfPairs c.directions.direction c.lowest-direction.result c.directions.along c.directions.across
    = pairs_next (points_in c.args.corners.now) (corners_in c.args.corners.now) Right Top c.args.right 0 c.args.top c.args.bottom c.directions.direction c.next.result c.next-in-directions.result c.first.result c.lowest-direction.result c.directions.along c.directions.across
    c.directions.invariant.along c.directions.invariant.across c.directions-test.true c.next.ensures c.next-in-directions.ensures c.first.ensures c.lowest-direction.ensures.scaled c.lowest-direction.ensures.lowest in
    quarter_falls (points_in c.args.corners.now) (corners_in c.args.corners.now) (record { right = c.args.right; left = 0; top = c.args.top; bottom = c.args.bottom }) c.directions.direction c.lowest-direction.result c.directions.along c.directions.across c.follow-along.result c.follow-across.result c.directions-test.true next
    (pair_after (points_in c.args.corners.now) (corners_in c.args.corners.now) Right c.args.right 0 c.directions.direction c.lowest-direction.result c.directions.along c.follow-along.result
    c.args.corners.now.hull.around (hull_listed (points_in c.args.corners.now) (numbers_in c.args.corners.now) c.args.corners.now.hull) c.directions.invariant.along c.directions-test.true next.next next.before_one c.follow-along.ensures.pair c.follow-along.ensures.follows)
    (pair_after (points_in c.args.corners.now) (corners_in c.args.corners.now) Top c.args.top c.args.bottom c.directions.direction c.lowest-direction.result c.directions.across c.follow-across.result
    c.args.corners.now.hull.around (hull_listed (points_in c.args.corners.now) (numbers_in c.args.corners.now) c.args.corners.now.hull) c.directions.invariant.across c.directions-test.true next.next next.before_two c.follow-across.ensures.pair c.follow-across.ensures.follows)
    c.follow-along.ensures.follows c.follow-across.ensures.follows

pub directions-preserved : goal.directions-preserved
directions-preserved g c =
    let next : IsNextOfPairs c.directions.direction c.lowest-direction.result c.directions.along c.directions.across
    = pairs_next (points_in c.args.corners.now) (corners_in c.args.corners.now) Right Top c.args.right 0 c.args.top c.args.bottom c.directions.direction c.next.result c.next-in-directions.result c.first.result c.lowest-direction.result c.directions.along c.directions.across
    c.directions.invariant.along c.directions.invariant.across c.directions-test.true c.next.ensures c.next-in-directions.ensures c.first.ensures c.lowest-direction.ensures.scaled c.lowest-direction.ensures.lowest in
    let pushed : c.push.new.self ≡ c.directions.cones ++ (record { dir = c.dir_from.result; hi = c.number_at.result; lo = c.number_at-in-directions.result; over = c.number_at-in-directions-2.result; under = c.number_at-in-directions-3.result }) ∷ [] = search rules in
    let cones : map quarter_cone_of c.push.new.self ≡ map quarter_cone_of c.directions.cones ++ quarter_cone_of (record { dir = c.dir_from.result; hi = c.number_at.result; lo = c.number_at-in-directions.result; over = c.number_at-in-directions-2.result; under = c.number_at-in-directions-3.result }) ∷ []
    = ap (map quarter_cone_of) pushed ∙ map-append quarter_cone_of c.directions.cones ((record { dir = c.dir_from.result; hi = c.number_at.result; lo = c.number_at-in-directions.result; over = c.number_at-in-directions-2.result; under = c.number_at-in-directions-3.result }) ∷ []) in
    let some = some_numbers (points_in c.args.corners.now) (numbers_in c.args.corners.now) c.args.corners.now.hull.around.some in
    subst (λ l. IsQuarterTurning (points_in c.args.corners.now) (corners_in c.args.corners.now) (record { right = c.args.right; left = 0; top = c.args.top; bottom = c.args.bottom }) c.lowest-direction.result c.follow-along.result c.follow-across.result l c.follow-across.new.steps c.args.steps.now) (sym cones)
    (quarter_more (points_in c.args.corners.now) (corners_in c.args.corners.now) (record { right = c.args.right; left = 0; top = c.args.top; bottom = c.args.bottom }) c.directions.direction c.lowest-direction.result c.directions.along c.directions.across c.follow-along.result c.follow-across.result
    (map quarter_cone_of c.directions.cones) (quarter_cone_of (record { dir = c.dir_from.result; hi = c.number_at.result; lo = c.number_at-in-directions.result; over = c.number_at-in-directions-2.result; under = c.number_at-in-directions-3.result })) c.directions.steps c.follow-along.new.steps c.follow-across.new.steps c.args.steps.now
    c.args.corners.now.hull.around (hull_listed (points_in c.args.corners.now) (numbers_in c.args.corners.now) c.args.corners.now.hull) c.directions.invariant c.directions-test.true next c.dir_from.ensures
    (number_around (points_in c.args.corners.now) (numbers_in c.args.corners.now) c.directions.along.high.advance c.number_at.result some c.number_at.ensures.number)
    (number_around (points_in c.args.corners.now) (numbers_in c.args.corners.now) c.directions.along.low.advance c.number_at-in-directions.result some c.number_at-in-directions.ensures.number)
    (number_around (points_in c.args.corners.now) (numbers_in c.args.corners.now) c.directions.across.high.advance c.number_at-in-directions-2.result some c.number_at-in-directions-2.ensures.number)
    (number_around (points_in c.args.corners.now) (numbers_in c.args.corners.now) c.directions.across.low.advance c.number_at-in-directions-3.result some c.number_at-in-directions-3.ensures.number)
    (c.number_at.ensures.below, c.number_at-in-directions.ensures.below, c.number_at-in-directions-2.ensures.below, c.number_at-in-directions-3.ensures.below)
    c.follow-along.ensures.pair c.follow-along.ensures.follows c.follow-along.ensures.steps c.follow-across.ensures.pair c.follow-across.ensures.follows c.follow-across.ensures.steps)

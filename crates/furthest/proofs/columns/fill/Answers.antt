use Rattle.std.proofs.Common.{◌≡◌, refl, subst, ap, ◌∙◌, ℕ, ◌+◌, ◌<◌, ◌≤◌, min, List, length}
use Rattle.bounds_model.specs.Plane.{PlanePoint}
use Rattle.hull_calipers.specs.CornerLists.{corners_in, points_in}
use Rattle.furthest_laws.proofs.HullRows.{corners_cross}
use Rattle.furthest.specs.Columns.{column_at}
use Rattle.furthest.proofs.CornerCounts.{count_is}
use Rattle.furthest.proofs.Strides.{fill_start, fill_more, fill_asks, fill_end, fill_cost}
use Rattle.furthest.proofs.columns.fill.Goals as goal

pub rows-init : goal.rows-init
rows-init g c = fill_start (corners_in c.args.corners.now) c.args.stride (column_at c.args.columns.now 0) c.args.steps.now c.args.columns.now c.requires.some c.requires.stride c.requires.columns refl

-- the row after this one
next_is : {r count : ℕ} (row stride : ℕ) (xs : List PlanePoint) → r ≡ min (row + stride) count → count ≡ length xs → r ≡ min (row + stride) (length xs)
next_is row stride xs e f = e ∙ ap (min (row + stride)) f

pub first_between-requires-clause-order : goal.first_between-requires-clause-order
first_between-requires-clause-order g c =
    (fill_asks (corners_in c.args.corners.now) c.args.stride c.rows.row c.rows.low c.args.steps.now c.rows.steps c.min.result (column_at c.rows.columns c.min.result) c.rows.columns
    (corners_cross (points_in c.args.corners.now) (corners_in c.args.corners.now) c.corners_are_those_of_the_hull.ensures.corners) c.requires.some
    (subst (λ n. c.rows.row < n) (count_is c.args.corners.now c.len-count.ensures.count) c.rows-test.true) c.rows.invariant
    (next_is c.rows.row c.args.stride (corners_in c.args.corners.now) c.min.ensures (count_is c.args.corners.now c.len-count.ensures.count)) refl).2.order

pub first_between-requires-clause-low : goal.first_between-requires-clause-low
first_between-requires-clause-low g c =
    (fill_asks (corners_in c.args.corners.now) c.args.stride c.rows.row c.rows.low c.args.steps.now c.rows.steps c.min.result (column_at c.rows.columns c.min.result) c.rows.columns
    (corners_cross (points_in c.args.corners.now) (corners_in c.args.corners.now) c.corners_are_those_of_the_hull.ensures.corners) c.requires.some
    (subst (λ n. c.rows.row < n) (count_is c.args.corners.now c.len-count.ensures.count) c.rows-test.true) c.rows.invariant
    (next_is c.rows.row c.args.stride (corners_in c.args.corners.now) c.min.ensures (count_is c.args.corners.now c.len-count.ensures.count)) refl).2.low_within

pub first_between-requires-clause-high : goal.first_between-requires-clause-high
first_between-requires-clause-high g c =
    (fill_asks (corners_in c.args.corners.now) c.args.stride c.rows.row c.rows.low c.args.steps.now c.rows.steps c.min.result (column_at c.rows.columns c.min.result) c.rows.columns
    (corners_cross (points_in c.args.corners.now) (corners_in c.args.corners.now) c.corners_are_those_of_the_hull.ensures.corners) c.requires.some
    (subst (λ n. c.rows.row < n) (count_is c.args.corners.now c.len-count.ensures.count) c.rows-test.true) c.rows.invariant
    (next_is c.rows.row c.args.stride (corners_in c.args.corners.now) c.min.ensures (count_is c.args.corners.now c.len-count.ensures.count)) refl).2.high_after

pub first_between-requires-clause-within : goal.first_between-requires-clause-within
first_between-requires-clause-within g c =
    (fill_asks (corners_in c.args.corners.now) c.args.stride c.rows.row c.rows.low c.args.steps.now c.rows.steps c.min.result (column_at c.rows.columns c.min.result) c.rows.columns
    (corners_cross (points_in c.args.corners.now) (corners_in c.args.corners.now) c.corners_are_those_of_the_hull.ensures.corners) c.requires.some
    (subst (λ n. c.rows.row < n) (count_is c.args.corners.now c.len-count.ensures.count) c.rows-test.true) c.rows.invariant
    (next_is c.rows.row c.args.stride (corners_in c.args.corners.now) c.min.ensures (count_is c.args.corners.now c.len-count.ensures.count)) refl).2.high_small

pub rows-preserved : goal.rows-preserved
rows-preserved g c =
    let corners = corners_in c.args.corners.now in
    let asks = fill_asks (corners_in c.args.corners.now) c.args.stride c.rows.row c.rows.low c.args.steps.now c.rows.steps c.min.result (column_at c.rows.columns c.min.result) c.rows.columns
    (corners_cross (points_in c.args.corners.now) (corners_in c.args.corners.now) c.corners_are_those_of_the_hull.ensures.corners) c.requires.some
    (subst (λ n. c.rows.row < n) (count_is c.args.corners.now c.len-count.ensures.count) c.rows-test.true) c.rows.invariant
    (next_is c.rows.row c.args.stride (corners_in c.args.corners.now) c.min.ensures (count_is c.args.corners.now c.len-count.ensures.count)) refl in
    fill_more corners c.args.stride c.rows.row asks.0 c.rows.low c.min.result (column_at c.rows.columns c.min.result) c.first_between.result c.args.steps.now c.rows.steps
    c.first_between.new.steps c.rows.columns _ (corners_cross (points_in c.args.corners.now) corners c.corners_are_those_of_the_hull.ensures.corners) c.requires.some
    (subst (λ n. c.rows.row < n) (count_is c.args.corners.now c.len-count.ensures.count) c.rows-test.true) c.rows.invariant asks.1
    (next_is c.rows.row c.args.stride corners c.min.ensures (count_is c.args.corners.now c.len-count.ensures.count)) refl c.first_between.ensures.found refl c.first_between.ensures.steps

pub returns-clause-columns : goal.returns-clause-columns
returns-clause-columns g c = fill_end (corners_in c.args.corners.now) c.args.stride c.rows.row c.rows.low c.args.steps.now c.rows.steps c.rows.columns
    (subst (λ n. n ≤ c.rows.row) (count_is c.args.corners.now c.len-count.ensures.count) c.rows-test.false) c.rows.invariant

pub returns-clause-steps : goal.returns-clause-steps
returns-clause-steps g c = fill_cost (corners_in c.args.corners.now) c.args.stride c.rows.row c.rows.low c.args.steps.now c.rows.steps c.rows.columns c.requires.stride c.rows.invariant

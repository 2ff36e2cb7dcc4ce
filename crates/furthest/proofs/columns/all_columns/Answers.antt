use Rattle.std.proofs.Common.{◌≡◌, subst, sym, ℕ, ◌+◌, ◌*◌, ◌^◌, ◌<◌, ◌≤◌, List, length, set}
use Rattle.bounds_model.specs.Plane.{PlanePoint}
use Rattle.hull_calipers.specs.CornerLists.{corners_in}
use Rattle.furthest_laws.specs.Rows.{IsFirstGreatest, distances}
use Rattle.furthest.proofs.CornerCounts.{count_is}
use Rattle.furthest.proofs.Halving.{IsHalving, halving_start, half_asks, halving_more, halving_end}
use Rattle.furthest.proofs.columns.all_columns.Goals as goal

-- with the count that is read
start : (corners : List PlanePoint) (columns : List ℕ) (count first stride base steps : ℕ) → count ≡ length corners → 2 ≤ length corners → length columns ≡ length corners + 1
    → IsFirstGreatest (distances corners 0) 1 count first → (m : ℕ) × (stride ≡ 2 ^ m) → count ≤ stride → stride < 2 * count
    → steps + 1 ≡ base + count + 1 → IsHalving corners stride (set (set columns 0 first) count (first + count)) base steps
start corners columns count first stride base steps is two as_many found power wide small cost =
    subst (λ n. IsHalving corners stride (set (set columns 0 first) n (first + n)) base steps) (sym is)
    (halving_start corners columns first stride base steps two as_many (subst (λ n. IsFirstGreatest (distances corners 0) 1 n first) is found) power (subst (λ n. n ≤ stride) is wide)
    (subst (λ n. stride < 2 * n) is small) (subst (λ n. steps + 1 ≡ base + n + 1) is cost))

pub strides-init : goal.strides-init
strides-init g c =
    start (corners_in c.args.corners.now) c.args.columns.now c.len-count.result c.first_greatest-first.result c.power_from-stride.result c.args.steps.now c.first_greatest-first.new.steps
    (count_is c.args.corners.now c.len-count.ensures.count) c.requires.two c.requires.as_many c.first_greatest-first.ensures.found
    c.power_from-stride.ensures.power c.power_from-stride.ensures.from c.power_from-stride.ensures.below c.first_greatest-first.ensures.steps

pub fill-requires-clause-columns : goal.fill-requires-clause-columns
fill-requires-clause-columns g c = (half_asks (corners_in c.args.corners.now) c.strides.stride c.args.steps.now c.strides.steps c.strides.columns c.strides-test.true c.strides.invariant).0

pub fill-requires-clause-some : goal.fill-requires-clause-some
fill-requires-clause-some g c = (half_asks (corners_in c.args.corners.now) c.strides.stride c.args.steps.now c.strides.steps c.strides.columns c.strides-test.true c.strides.invariant).1

pub fill-requires-clause-stride : goal.fill-requires-clause-stride
fill-requires-clause-stride g c = (half_asks (corners_in c.args.corners.now) c.strides.stride c.args.steps.now c.strides.steps c.strides.columns c.strides-test.true c.strides.invariant).2

pub strides-preserved : goal.strides-preserved
strides-preserved g c = halving_more (corners_in c.args.corners.now) c.strides.stride c.args.steps.now c.strides.steps c.fill.new.steps c.strides.columns c.fill.new.columns
    c.strides-test.true c.strides.invariant c.fill.ensures.columns c.fill.ensures.steps

pub returns-clause-columns : goal.returns-clause-columns
returns-clause-columns g c = (halving_end (corners_in c.args.corners.now) c.strides.stride c.args.steps.now c.strides.steps c.strides.columns c.strides-test.false c.strides.invariant).0

pub returns-clause-steps : goal.returns-clause-steps
returns-clause-steps g c = (halving_end (corners_in c.args.corners.now) c.strides.stride c.args.steps.now c.strides.steps c.strides.columns c.strides-test.false c.strides.invariant).1

use Rattle.std.proofs.Common.{◌≡◌, ◌+◌, subst, length, rules, arith}
use Rattle.bounded_coords.specs.Clouds.{counted_points}
use Rattle.bounded_coords.proofs.Passes.{IsLeastBefore, least_of_one, least_takes, least_keeps, least_of_all, is_below, is_not_below}
use Rattle.bounded_coords.proofs.cloud.Counted.first_least.Goals as goal
use Rattle.bounded_coords.proofs.cloud.Counted.first_least.Goals.{then-lt, else-lt}

pub points-init : goal.points-init
points-init g c =
    let counted = c.point.ensures.step in
    (least_of_one (g.M.Measure.measured c.args.measure.now) g.M.Value.Ord.cmp g.met.M.Value.Ord.total (counted_points c.args.self) c.point.result.now c.at-lowest.result c.point.ensures.point c.at-lowest.ensures, omega arith)

pub points-preserved : goal.points-preserved
points-preserved g c =
    let counted = c.point-in-points.ensures.step in
    let before = c.points.invariant.1 in
    elim c.if-lt.branch [
      | then-lt w ↦ rw (w.lowest-is, w.number-is) (
        least_takes (g.M.Measure.measured c.args.measure.now) g.M.Value.Ord.cmp g.met.M.Value.Ord.total (counted_points c.args.self) c.points.i c.points.number c.points.lowest c.at-value.result c.point-in-points.result.now
            c.points.invariant.0 c.point-in-points.ensures.point c.at-value.ensures (is_below _ _ g.met.M.Value.Ord.matches_partial_cmp c.lt.ensures w.if-lt.true),
        omega arith,
      )
      | else-lt w ↦ rw (w.lowest-is, w.number-is) (
        least_keeps (g.M.Measure.measured c.args.measure.now) g.M.Value.Ord.cmp g.met.M.Value.Ord.total (counted_points c.args.self) c.points.i c.points.number c.points.lowest c.at-value.result c.point-in-points.result.now
            c.points.invariant.0 c.point-in-points.ensures.point c.at-value.ensures (is_not_below _ _ g.met.M.Value.Ord.matches_partial_cmp c.lt.ensures w.if-lt.false),
        omega arith,
      )
    ]

pub returns-clause-found : goal.returns-clause-found
returns-clause-found g c =
    let all_read : c.points.i ≡ length (counted_points c.args.self) = search rules in
    least_of_all (g.M.Measure.measured c.args.measure.now) g.M.Value.Ord.cmp g.met.M.Value.Ord.total (counted_points c.args.self) c.points.number c.points.lowest
    (subst (λ n. IsLeastBefore (g.M.Measure.measured c.args.measure.now) g.M.Value.Ord.cmp (counted_points c.args.self) n c.points.number c.points.lowest) all_read c.points.invariant.0)

pub returns-clause-steps : goal.returns-clause-steps
returns-clause-steps g c =
    let all_read : c.points.i ≡ length (counted_points c.args.self) = search rules in
    subst (λ n. c.points.steps ≡ c.args.steps.now + n) all_read c.points.invariant.1

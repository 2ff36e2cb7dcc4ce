use Rattle.std.proofs.Common.{◌≡◌, subst, length, rules}
use Rattle.bounded_coords.specs.Clouds.{points_of}
use Rattle.bounded_coords.proofs.Passes.{IsLeastBefore, least_of_one, least_takes, least_keeps, least_of_all, is_below, is_not_below}
use Rattle.bounded_coords.proofs.cloud.Cloud.first_least.Goals as goal
use Rattle.bounded_coords.proofs.cloud.Cloud.first_least.Goals.{then-lt, else-lt}

pub points-init : goal.points-init
points-init g c = least_of_one (g.M.Measure.measured c.args.measure.now) g.M.Value.Ord.cmp g.met.M.Value.Ord.total (points_of c.args.self) c.at.result.now c.at-least.result c.at.ensures c.at-least.ensures

pub points-preserved : goal.points-preserved
points-preserved g c = elim c.if-lt.branch [
  | then-lt w ↦ rw (w.least-is, w.number-is) (least_takes (g.M.Measure.measured c.args.measure.now) g.M.Value.Ord.cmp g.met.M.Value.Ord.total (points_of c.args.self) c.points.i c.points.number c.points.least c.at-value.result c.at-in-points.result.now
      c.points.invariant c.at-in-points.ensures c.at-value.ensures (is_below _ _ g.met.M.Value.Ord.matches_partial_cmp c.lt.ensures w.if-lt.true))
  | else-lt w ↦ rw (w.least-is, w.number-is) (least_keeps (g.M.Measure.measured c.args.measure.now) g.M.Value.Ord.cmp g.met.M.Value.Ord.total (points_of c.args.self) c.points.i c.points.number c.points.least c.at-value.result c.at-in-points.result.now
      c.points.invariant c.at-in-points.ensures c.at-value.ensures (is_not_below _ _ g.met.M.Value.Ord.matches_partial_cmp c.lt.ensures w.if-lt.false))
]

pub returns : goal.returns
returns g c =
    let all_read : c.points.i ≡ length (points_of c.args.self) = search rules in
    least_of_all (g.M.Measure.measured c.args.measure.now) g.M.Value.Ord.cmp g.met.M.Value.Ord.total (points_of c.args.self) c.points.number c.points.least
    (subst (λ n. IsLeastBefore (g.M.Measure.measured c.args.measure.now) g.M.Value.Ord.cmp (points_of c.args.self) n c.points.number c.points.least) all_read c.points.invariant)

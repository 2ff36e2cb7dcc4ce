use Rattle.std.proofs.Common.{sym, subst, inl, inr, map}
use Rattle.integers.proofs.Lists.{below_or_at}
use Rattle.bounds_model.specs.Plane.{point_at}
use Rattle.bounded_coords.specs.Clouds.{points_of}
use Rattle.answers.specs.Answers.{entry_of}
use Rattle.furthest_check.specs.RowTests.{RowPasses}
use Rattle.furthest_check.proofs.rows.all_pass.Goals as goal

pub loop-i-preserved : goal.loop-i-preserved
loop-i-preserved c = λ k below. elim (below_or_at k c.loop-i.i below) [
  | inl less ↦ c.loop-i.invariant k less
  | inr same ↦ subst (RowPasses (map (point_at (points_of c.args.cloud)) c.args.numbers.now) (map entry_of c.args.entries.now)) (sym same) (c.row_passes.ensures.0 c.if-not-row_passes.false)
]

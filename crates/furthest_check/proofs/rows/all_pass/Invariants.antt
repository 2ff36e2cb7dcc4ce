use Rattle.std.proofs.Common.{ℕ, ◌<◌, map}
use Rattle.bounds_model.specs.Plane.{point_at}
use Rattle.bounded_coords.specs.Clouds.{points_of}
use Rattle.answers.specs.Answers.{entry_of}
use Rattle.furthest_check.specs.RowTests.{RowPasses}
use Rattle.furthest_check.proofs.rows.all_pass.Given as goal

abbrev pub invariant-loop-i : goal.invariant-loop-i
invariant-loop-i l = (k : ℕ) → k < l.i → RowPasses (map (point_at (points_of l.cloud)) l.numbers) (map entry_of l.entries) k

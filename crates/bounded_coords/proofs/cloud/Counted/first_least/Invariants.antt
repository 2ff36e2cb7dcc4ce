use Rattle.std.proofs.Common.{◌≡◌, ◌+◌}
use Rattle.bounded_coords.specs.Clouds.{counted_points}
use Rattle.bounded_coords.proofs.Passes.{IsLeastBefore}
use Rattle.bounded_coords.proofs.cloud.Counted.first_least.Given as goal

abbrev pub invariant-points : goal.invariant-points
invariant-points g l =
    IsLeastBefore (g.M.Measure.measured l.measure) g.M.Value.Ord.cmp (counted_points l.self) l.i l.number l.lowest
    × (l.steps ≡ l.fn.steps + l.i)

use Rattle.bounded_coords.specs.Clouds.{points_of}
use Rattle.bounded_coords.proofs.Passes.{IsLeastBefore}
use Rattle.bounded_coords.proofs.cloud.Cloud.first_least.Given as goal

abbrev pub invariant-points : goal.invariant-points
invariant-points g l = IsLeastBefore (g.M.Measure.measured l.measure) g.M.Value.Ord.cmp (points_of l.self) l.i l.number l.least

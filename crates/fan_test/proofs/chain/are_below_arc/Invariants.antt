use Rattle.std.proofs.Common.{ℕ, ◌<◌}
use Rattle.std.specs.Prelude.{slice_index_or}
use Rattle.bounds_model.specs.Plane.{PlanePoint}
use Rattle.bounded_coords.specs.Clouds.{points_of}
use Rattle.fan_test.specs.Chains.{IsWithinEach}
use Rattle.fan_test.proofs.chain.are_below_arc.Given as goal

-- the points so far are below the arc
abbrev pub invariant-loop-i : goal.invariant-loop-i
invariant-loop-i g l = (k : ℕ) (d : PlanePoint) → k < l.i → IsWithinEach (g.C.Chain.directions l.chain) (g.C.Chain.points l.chain) l.from l.to (slice_index_or (points_of l.cloud) k d)

use Rattle.std.proofs.Common.{ℕ, ◌<◌}
use Rattle.std.specs.Prelude.{slice_index_or}
use Rattle.bounds_model.specs.Plane.{PlanePoint}
use Rattle.bounded_coords.specs.Clouds.{points_of}
use Rattle.fan_test.specs.Chains.{IsWithin}
use Rattle.fan_test.proofs.chain.are_within.Given as goal

abbrev pub invariant-loop-j : goal.invariant-loop-j
invariant-loop-j g l = (k : ℕ) (d : PlanePoint) → k < l.j → IsWithin (g.C.Chain.directions l.chain) (g.C.Chain.points l.chain) l.i l.k (slice_index_or (points_of l.cloud) k d)

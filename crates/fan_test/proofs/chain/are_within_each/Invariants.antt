use Rattle.std.proofs.Common.{◌-◌, ◌≤◌}
use Rattle.std.specs.Prelude.{All}
use Rattle.bounded_coords.specs.Clouds.{points_of}
use Rattle.fan_test.specs.Chains.{IsWithinEach}
use Rattle.fan_test.proofs.chain.are_within_each.Given as goal

-- the points are below the cones so far
abbrev pub invariant-arcs : goal.invariant-arcs
invariant-arcs g l = record {
  limit : l.from ≤ g.C.Chain.cones l.chain;
  below : All (IsWithinEach (g.C.Chain.directions l.chain) (g.C.Chain.points l.chain) 0 l.from) (points_of l.cloud);
}

abbrev pub decreases-arcs : goal.decreases-arcs
decreases-arcs g l = g.C.Chain.cones l.chain - l.from

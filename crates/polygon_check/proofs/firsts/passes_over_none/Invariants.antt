use Rattle.std.proofs.Common.{◌≡◌, ◌+◌, ◌*◌, ◌^◌, map, take}
use Rattle.integers.specs.Size.{Size}
use Rattle.bounds_model.specs.Numbers.{EachBelow}
use Rattle.bounds_model.specs.Plane.{point_at}
use Rattle.bounds_model.specs.Kgon.{twice_area}
use Rattle.polygon_check.specs.FirstTests.{PassesOverNone}
use Rattle.polygon_check.proofs.firsts.passes_over_none.Given as goal

-- what the chosen corners up to this place cover, and that none was passed over before it
abbrev pub invariant-places : goal.invariant-places
invariant-places l = record {
  covers : l.covered ≡ twice_area (map (point_at l.corners) (take (l.place + 1) l.chosen));
  small : Size (l.place * 2 ^ 39) l.covered;
  each : EachBelow l.place (PassesOverNone l.corners l.chosen l.layers l.size);
}

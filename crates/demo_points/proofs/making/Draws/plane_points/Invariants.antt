use Rattle.std.proofs.Common.{◌≡◌, ◌-◌, ◌++◌, length}
use Rattle.bounds_model.specs.Demo.{plane_points}
use Rattle.demo_points.proofs.making.Draws.plane_points.Given as goal

-- what was made and what is to come are all points
abbrev pub invariant-points : goal.invariant-points
invariant-points l = record {
  made : length l.points ≡ l.counter;
  points : l.points ++ plane_points l.self.state (l.count - l.counter) ≡ plane_points l.fn.self.state l.count;
}

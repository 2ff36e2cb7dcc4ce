use Rattle.std.proofs.Common.{◌≡◌, ◌-◌, ◌*◌, ◌++◌, length}
use Rattle.bounds_model.specs.Demo.{state_after, space_points}
use Rattle.demo_points.specs.Across.{across}
use Rattle.demo_points.proofs.making.Draws.space_points.Given as goal

-- what was made and what is to come are all points
abbrev pub invariant-points : goal.invariant-points
invariant-points l = record {
  made : length l.points ≡ l.counter;
  points : l.points ++ space_points (across l.part) l.self.state (l.count - l.counter) ≡ space_points (across l.part) l.fn.self.state l.count;
  state : state_after (3 * (l.count - l.counter)) l.self.state ≡ state_after (3 * l.count) l.fn.self.state;
}

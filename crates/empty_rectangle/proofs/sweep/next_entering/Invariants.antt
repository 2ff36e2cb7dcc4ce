use Rattle.std.proofs.Common.{◌≤◌, ◌-◌, length}
use Rattle.empty_rectangle.specs.Rectangles.{NoneEnters}
use Rattle.empty_rectangle.proofs.sweep.next_entering.Given as goal

-- the obstacles of whole runs are not in the window
abbrev pub invariant-runs : goal.invariant-runs
invariant-runs l = record {
  after : l.from ≤ l.passed;
  below : l.passed ≤ length l.obstacles;
  earlier : NoneEnters l.obstacles l.window.left.at l.bottom l.window.right.at l.from l.passed;
}

abbrev pub decreases-runs : goal.decreases-runs
decreases-runs l = length l.obstacles - l.passed

use Rattle.std.proofs.Common.{◌≤◌}
use Rattle.empty_rectangle.specs.Rectangles.{NoneEnters}
use Rattle.empty_rectangle.proofs.sweep.first_entering.Given as goal

-- the obstacles before k are not in the window
abbrev pub invariant-seek : goal.invariant-seek
invariant-seek l = record {
  after : l.from ≤ l.k;
  earlier : NoneEnters l.obstacles l.window.left.at l.bottom l.window.right.at l.from l.k;
}

use Rattle.std.proofs.Common.{◌≤◌, IsFalse}
use Rattle.std.specs.List.{AllWithin}
use Rattle.empty_rectangle.specs.Rectangles.{IsStrictlyBetween}
use Rattle.empty_rectangle.proofs.sweep.is_run_met.Given as goal

-- where none was found, the x before k are not between the sides
abbrev pub invariant-run : goal.invariant-run
invariant-run l = record {
  after : l.from ≤ l.k;
  earlier : IsFalse l.is_met → AllWithin (λ x. ¬ IsStrictlyBetween l.window.left.at l.window.right.at x) l.xs l.from l.k;
}

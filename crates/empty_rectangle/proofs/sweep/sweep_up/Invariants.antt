use Rattle.std.proofs.Common.{length, ◌≤◌, ◌-◌}
use Rattle.empty_rectangle.proofs.Sweeping.{Scanned}
use Rattle.empty_rectangle.proofs.sweep.sweep_up.Given as goal

-- so many obstacles were passed
abbrev pub invariant-rise : goal.invariant-rise
invariant-rise l = record {
  below : l.passed ≤ length l.obstacles;
  scanned : Scanned l.obstacles l.fn.extent l.seed l.fn.best l.passed l.window l.best;
}

abbrev pub decreases-rise : goal.decreases-rise
decreases-rise l = length l.obstacles - l.passed

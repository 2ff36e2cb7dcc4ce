use Rattle.std.proofs.Common.{◌≡◌, ◌+◌}
use Rattle.bounded_coords.specs.Clouds.{counted_points}
use Rattle.p_centres.specs.Surveys.{IsFound}
use Rattle.p_centres.proofs.surveys.survey.Given as goal

abbrev pub invariant-loop-i : goal.invariant-loop-i
invariant-loop-i g l = record {
  found : IsFound (counted_points l.cloud) l.squares l.limit l.i l.found;
  steps : l.steps ≡ l.fn.steps + l.i;
}

use Rattle.std.proofs.Common.{◌≤◌, ◌+◌}
use Rattle.bounded_coords.specs.Clouds.{counted_points}
use Rattle.corner_squares.specs.Extents.{IsShort}
use Rattle.four_centres.specs.Surveys.{IsSpanOf}
use Rattle.four_centres.proofs.surveys.survey.Given as goal

abbrev pub invariant-points : goal.invariant-points
invariant-points g l = record {
  span : IsSpanOf (λ p. p.y) (counted_points l.cloud) l.order l.squares l.fn.ends.low l.i l.up;
  short : IsShort l.fn.limit l.up;
  steps : l.steps + l.fn.ends.low + 1 ≤ l.fn.steps + l.i + 1;
}

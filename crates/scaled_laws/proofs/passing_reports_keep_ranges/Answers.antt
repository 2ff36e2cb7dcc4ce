-- By the ranges of the answer, and the small denominators of sizes.
use Rattle.scaled_laws.proofs.RangesLaw.{ranges_law}
use Rattle.scaled_laws.proofs.passing_reports_keep_ranges.Goals as goal

pub returns : goal.returns
returns c = ranges_law

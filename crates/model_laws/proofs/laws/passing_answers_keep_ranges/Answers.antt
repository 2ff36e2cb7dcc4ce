use Rattle.model_laws.proofs.PassingRanges.{passing_keeps_ranges}
use Rattle.model_laws.proofs.laws.passing_answers_keep_ranges.Goals as goal

pub returns : goal.returns
returns c = passing_keeps_ranges

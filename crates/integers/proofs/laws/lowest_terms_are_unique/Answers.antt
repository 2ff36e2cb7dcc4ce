use Rattle.integers.proofs.LowestTerms.{lowest_unique}
use Rattle.integers.proofs.laws.lowest_terms_are_unique.Goals as goal

pub returns : goal.returns
returns c = lowest_unique

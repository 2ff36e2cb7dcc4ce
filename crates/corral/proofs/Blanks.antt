-- What a read past the end of a list gives.
use Rattle.std.proofs.Common.{pos}
use Rattle.corral.specs.declared.support.WeightedItem.{WeightedItem}
use Rattle.corral.specs.declared.search.Candidate.{Candidate}

-- of candidates
abbrev pub blank : Candidate
blank = record { id = record { first = 0; second = 0 }; vector = record { x = pos 0; y = pos 0; z = pos 0 } }

-- of supports
abbrev pub blank_support : WeightedItem
blank_support = record { id = record { first = 0; second = 0 }; weight = 0 }

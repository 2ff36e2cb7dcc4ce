-- Supports of a distance as an answer lists them.
use Rattle.std.specs.Prelude.{pos, List, map}
use Rattle.bounds_model.specs.AnnulusAnswer.{WeightedPair}
use Rattle.corral.specs.declared.support.WeightedItem.{WeightedItem}
use Rattle.corral.specs.declared.support.Support.{Support}
use Rattle.corral.specs.Supported.{supports_of}

-- a support as a weighted pair of points
abbrev pub weighted_pair : WeightedItem → WeightedPair
weighted_pair members = record { first = members.id.first; second = members.id.second; weight = pos members.weight }

-- all supports, in order
abbrev pub weighted_pairs : {K P : Type 0} {g : _} → Support K P g → List WeightedPair
weighted_pairs s = map weighted_pair (supports_of s)

-- What a list of supports holds.
use Rattle.std.specs.Prelude.{List}
use Rattle.corral.specs.declared.items.Items.{Items}
use Rattle.corral.specs.declared.support.WeightedItem.{WeightedItem}
use Rattle.corral.specs.declared.support.Support.{Support}

-- the items that they are chosen from
abbrev pub items_of : {K P : Type 0} {g : _} → Support K P g → Items K P
items_of s = s.items

-- the supports, in order
abbrev pub supports_of : {K P : Type 0} {g : _} → Support K P g → List WeightedItem
supports_of s = s.members.items

-- What a corral holds, and items of least slack.
use Rattle.std.specs.Prelude.{List}
use Rattle.bounds_model.specs.Space.{SpacePoint}
use Rattle.bounds_model.specs.Slacks.{WeightedVector}
use Rattle.corral.specs.declared.items.Items.{Items}
use Rattle.corral.specs.declared.support.WeightedItem.{WeightedItem}
use Rattle.corral.specs.declared.unsettled.Corral.{Corral}
use Rattle.corral.specs.WeightedItems.{weighted_items}

-- the items that the supports are chosen from
abbrev pub all_items : {K T P : Type 0} {g h : _} → Corral K T P g h → Items K P
all_items corral = corral.items

-- the supports, in order
abbrev pub members_in : {K T P : Type 0} {g h : _} → Corral K T P g h → List WeightedItem
members_in corral = corral.balance.members.items

-- the weighted vectors of the supports
abbrev pub supports_in : {K T P : Type 0} {g h : _} → (P → SpacePoint) → Corral K T P g h → List WeightedVector
supports_in place corral = weighted_items place corral.items corral.balance.members.items

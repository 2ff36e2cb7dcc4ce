-- Items with weights.
use Rattle.std.specs.Prelude.{ℕ, ◌+◌, ℤ, pos, List, All, map}
use Rattle.std.specs.Coded.{le_prop}
use Rattle.bounds_model.specs.Numbers.{HasCount}
use Rattle.bounds_model.specs.Space.{SpacePoint}
use Rattle.bounds_model.specs.Slacks.{WeightedVector}
use Rattle.corral.specs.declared.items.Id.{Id}
use Rattle.corral.specs.declared.items.Items.{Items}
use Rattle.corral.specs.declared.support.WeightedItem.{WeightedItem}
use Rattle.corral.specs.Items.{IsItem, IsItem-prop, item}

-- the names of items with weights
abbrev pub names : List WeightedItem → List Id
names members = map (λ s. s.id) members

-- their weights
abbrev pub weights : List WeightedItem → List ℤ
weights members = map (λ s. pos s.weight) members

-- 1 to dim + 1 names of items
pub record AreSupportItems {K P : Type 0} (dim : ℕ) (items : Items K P) (members : List WeightedItem) : Type 0 where
  pub count : HasCount 1 (dim + 1) members
  pub listed : All (λ s. IsItem items s.id) members

-- the weighted vector of an item with a weight
abbrev pub weighted_item : {K P : Type 0} → (P → SpacePoint) → Items K P → WeightedItem → WeightedVector
weighted_item place items s = record { weight = pos s.weight; vector = item place items s.id }

-- the weighted vectors of a list of them
abbrev pub weighted_items : {K P : Type 0} → (P → SpacePoint) → Items K P → List WeightedItem → List WeightedVector
weighted_items place items members = map (weighted_item place items) members

-- this holds in one way at most
pub AreSupportItems-prop : {K P : Type 0} (dim : ℕ) (items : Items K P) (members : List WeightedItem) → IsProp (AreSupportItems dim items members)
AreSupportItems-prop dim items members = hlevel (IsItem-prop, le_prop)

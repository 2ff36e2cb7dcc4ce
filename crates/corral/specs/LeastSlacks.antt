-- Items of least slack.
use Rattle.std.specs.Prelude.{ℤ, ◌≤ℤ◌}
use Rattle.bounds_model.specs.Space.{SpacePoint}
use Rattle.corral.specs.declared.items.Id.{Id}
use Rattle.corral.specs.declared.items.Items.{Items}
use Rattle.corral.specs.declared.sums.Moments.{Moments}
use Rattle.corral.specs.Items.{IsItem, item}
use Rattle.corral.specs.Moments.{slack_at}

-- no item has a slack below that of this one
pub record HasLeastSlack {K P : Type 0} (quadratic : ℤ) (place : P → SpacePoint) (items : Items K P) (m : Moments) (id : Id) : Type 0 where
  pub named : IsItem items id
  pub least : (other : Id) → IsItem items other → slack_at quadratic m (item place items id) ≤ℤ slack_at quadratic m (item place items other)

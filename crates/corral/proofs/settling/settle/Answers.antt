use Rattle.std.proofs.Common.{sym, ◌∙◌, subst, pos, ◌≤ℤ◌}
use Rattle.bounds_model.specs.Slacks.{mass, IsLow}
use Rattle.kernel_laws.specs.Solutions.{weight_limit}
use Rattle.corral.specs.declared.items.Id.{Id}
use Rattle.corral.specs.Items.{IsItem, item}
use Rattle.corral.specs.WeightedItems.{AreSupportItems, weighted_items}
use Rattle.corral.specs.Supports.{AreSupports}
use Rattle.corral.specs.Corrals.{all_items, members_in, supports_in}
use Rattle.corral.proofs.Outcomes.{one_outcome}
use Rattle.corral.proofs.Nearer.{nearer, none_lower}
use Rattle.corral.proofs.settling.settle.Goals as goal

pub exchange-smaller : goal.exchange-smaller
exchange-smaller g c =
    nearer g.T.Potential.SQUARE g.K.Kernel.DIM (supports_in g.K.Kernel.place c.exchange.corral) (supports_in g.K.Kernel.place c.exchange-in-exchange.new.self) c.exchange.corral.balance c.exchange-in-exchange.new.self.balance
    g.T.Potential.zero_or_one c.exchange.corral.balanced c.exchange-in-exchange.new.self.balanced c.exchange-in-exchange.ensures.risen

pub returns-then-not-is_low-clause-items : goal.returns-then-not-is_low-clause-items
returns-then-not-is_low-clause-items g c = c.into_support.ensures.items ∙ c.exchange.invariant

pub returns-then-not-is_low-clause-members : goal.returns-then-not-is_low-clause-members
returns-then-not-is_low-clause-members g c =
    subst (λ members. AreSupportItems {K = g.row.K.Denot} g.K.Kernel.DIM c.args.items members) (sym c.into_support.ensures.supports)
    (subst (λ xs. AreSupportItems {K = g.row.K.Denot} g.K.Kernel.DIM xs (members_in c.exchange.corral)) c.exchange.invariant c.exchange.corral.members)

pub returns-then-not-is_low-clause-supports : goal.returns-then-not-is_low-clause-supports
returns-then-not-is_low-clause-supports g c =
    subst (λ members. AreSupports g.T.Potential.SQUARE (weighted_items {K = g.row.K.Denot} g.K.Kernel.place c.args.items members)) (sym c.into_support.ensures.supports)
    (subst (λ xs. AreSupports g.T.Potential.SQUARE (weighted_items {K = g.row.K.Denot} g.K.Kernel.place xs (members_in c.exchange.corral))) c.exchange.invariant c.exchange.corral.balanced.supports)

pub returns-then-not-is_low-clause-limit : goal.returns-then-not-is_low-clause-limit
returns-then-not-is_low-clause-limit g c =
    subst (λ members. mass (weighted_items {K = g.row.K.Denot} g.K.Kernel.place c.args.items members) ≤ℤ pos (weight_limit g.T.Potential.SQUARE g.K.Kernel.DIM)) (sym c.into_support.ensures.supports)
    (subst (λ xs. mass (weighted_items {K = g.row.K.Denot} g.K.Kernel.place xs (members_in c.exchange.corral)) ≤ℤ pos (weight_limit g.T.Potential.SQUARE g.K.Kernel.DIM)) c.exchange.invariant c.exchange.corral.balanced.limit)

pub returns-then-not-is_low-clause-none_low : goal.returns-then-not-is_low-clause-none_low
returns-then-not-is_low-clause-none_low g c =
    subst (λ members. (id : Id) → IsItem {K = g.row.K.Denot} c.args.items id → ¬ IsLow g.T.Potential.SQUARE (weighted_items g.K.Kernel.place c.args.items members) (item g.K.Kernel.place c.args.items id)) (sym c.into_support.ensures.supports)
    (subst (λ xs. (id : Id) → IsItem {K = g.row.K.Denot} xs id → ¬ IsLow g.T.Potential.SQUARE (weighted_items g.K.Kernel.place xs (members_in c.exchange.corral)) (item g.K.Kernel.place xs id)) c.exchange.invariant
    (λ id named. none_lower g.T.Potential.SQUARE (supports_in g.K.Kernel.place c.exchange.corral) (item g.K.Kernel.place (all_items c.exchange.corral) c.lowest-id.result) (item g.K.Kernel.place (all_items c.exchange.corral) id)
    (c.lowest-id.ensures.least id named) (λ low. one_outcome c.if-not-is_low.true (c.is_low.ensures.1 low))))

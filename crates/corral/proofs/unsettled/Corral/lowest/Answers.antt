use Rattle.corral.specs.WeightedItems.{weighted_items}
use Rattle.corral.proofs.Balancing.{balance_within}
use Rattle.corral.proofs.unsettled.Corral.lowest.Goals as goal

pub point_of_least_slack-requires : goal.point_of_least_slack-requires
point_of_least_slack-requires g c =
    balance_within g.K.Kernel.DIM g.T.Potential.SQUARE (weighted_items g.K.Kernel.place c.args.self.now.items c.args.self.now.balance.members.items) c.args.self.now.balance c.args.self.now.balanced

pub difference_of_least_slack-requires-clause-within : goal.difference_of_least_slack-requires-clause-within
difference_of_least_slack-requires-clause-within g c =
    balance_within g.K.Kernel.DIM g.T.Potential.SQUARE (weighted_items g.K.Kernel.place c.args.self.now.items c.args.self.now.balance.members.items) c.args.self.now.balance c.args.self.now.balanced

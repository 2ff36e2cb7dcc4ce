use Rattle.std.proofs.Common.{◌∙◌, rules, SFits, to_z-of_z, ap}
use mir.Syntax.{w128}
use Rattle.corral.specs.WeightedItems.{weighted_items}
use Rattle.corral.specs.Moments.{slack_at}
use Rattle.corral.specs.Items.{item}
use Rattle.corral.proofs.Balancing.{balance_within, is_low_by_level}
use Rattle.corral.proofs.unsettled.Corral.is_low.Goals as goal

pub slack-requires-clause-within : goal.slack-requires-clause-within
slack-requires-clause-within g c =
    balance_within g.K.Kernel.DIM g.T.Potential.SQUARE (weighted_items g.K.Kernel.place c.args.self.now.items c.args.self.now.balance.members.items) c.args.self.now.balance c.args.self.now.balanced

pub returns : goal.returns
returns g c =
    let fits : SFits w128 c.slack.result = search rules in
    let level : SFits w128 c.args.self.now.balance.level = search rules in
    is_low_by_level g.K.Kernel.DIM g.T.Potential.SQUARE (weighted_items g.K.Kernel.place c.args.self.now.items c.args.self.now.balance.members.items) c.args.self.now.balance (item g.K.Kernel.place c.args.self.now.items c.args.id) _ _ c.args.self.now.balanced
    (to_z-of_z fits ∙ c.slack.ensures ∙ ap (slack_at g.T.Potential.SQUARE c.args.self.now.balance.moments) c.vector-vector.ensures.value) (to_z-of_z level)

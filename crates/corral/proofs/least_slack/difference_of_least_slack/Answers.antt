use Rattle.corral.proofs.Ends.{least_by_ends}
use Rattle.corral.proofs.least_slack.difference_of_least_slack.Goals as goal

pub returns : goal.returns
returns g c =
    least_by_ends g.T.Potential.SQUARE g.K.Kernel.place c.args.p c.args.q c.args.moments c.at.result.now c.first_least.result c.first_greatest.result c.requires.quadratic c.first_least.ensures c.first_greatest.ensures

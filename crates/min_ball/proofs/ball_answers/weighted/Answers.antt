use Rattle.std.proofs.Common.{arith}
use Rattle.corral.specs.Supported.{supports_of}
use Rattle.min_ball.proofs.Listing.{listed_more}
use Rattle.min_ball.proofs.ball_answers.weighted.Goals as goal

pub list-preserved : goal.list-preserved
list-preserved g c =
    let count = c.len-i-end.ensures.count in
    listed_more (supports_of c.args.support.now) c.list.i c.id.result c.weight.result c.list.supports.items c.push.new.self.items (omega arith) c.id.ensures c.weight.ensures c.list.invariant c.push.ensures.items

use Rattle.std.proofs.Common.{arith}
use Rattle.corral.specs.Supported.{supports_of}
use Rattle.polytope_distance.proofs.Listing.{listed_more}
use Rattle.polytope_distance.proofs.pairs.listed.Goals as goal

pub list-preserved : goal.list-preserved
list-preserved c =
    let count = c.len-i-end.ensures.count in
    listed_more (supports_of c.args.support.now) c.list.i c.id-id.result c.weight.result c.list.pairs.items c.push.new.self.items (omega arith) c.id-id.ensures c.weight.ensures c.list.invariant c.push.ensures.items

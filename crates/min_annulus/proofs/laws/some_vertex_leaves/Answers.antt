use Rattle.min_annulus.proofs.Exchange.{some_vertex_leaves}
use Rattle.min_annulus.proofs.laws.some_vertex_leaves.Goals as goal

pub returns : goal.returns
returns c = some_vertex_leaves

use Rattle.byte_tools.proofs.SearchedIndices.{last_here, last_behind, last_nowhere}
use Rattle.byte_tools.proofs.cuts.last_index_of.Goals as goal

pub returns-clause-here : goal.returns-clause-here
returns-clause-here c = last_here c.args.byte c.args.text.now c.memrchr.result c.memrchr.ensures

pub returns-clause-behind : goal.returns-clause-behind
returns-clause-behind c = last_behind c.args.byte c.args.text.now c.memrchr.result c.memrchr.ensures

pub returns-clause-nowhere : goal.returns-clause-nowhere
returns-clause-nowhere c = last_nowhere c.args.byte c.args.text.now c.memrchr.result c.memrchr.ensures

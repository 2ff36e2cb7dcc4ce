use Rattle.byte_tools.proofs.SearchedIndices.{searched_index}
use Rattle.byte_tools.proofs.cuts.index_of.Goals as goal

pub returns-clause-index : goal.returns-clause-index
returns-clause-index c = searched_index c.args.byte c.args.text.now c.memchr.result c.memchr.ensures

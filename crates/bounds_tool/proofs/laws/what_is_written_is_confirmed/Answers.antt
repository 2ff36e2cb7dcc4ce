use Rattle.bounds_tool.proofs.Confirmed.{written_is_confirmed}
use Rattle.bounds_tool.proofs.laws.what_is_written_is_confirmed.Goals as goal

pub returns : goal.returns
returns c = written_is_confirmed

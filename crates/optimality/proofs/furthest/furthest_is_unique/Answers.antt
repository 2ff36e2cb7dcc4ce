-- Of two first furthest corners neither comes before the other.
use Rattle.furthest_laws.proofs.Named.{one_furthest}
use Rattle.optimality.proofs.furthest.furthest_is_unique.Goals as goal

pub returns : goal.returns
returns c = one_furthest

use Rattle.integers.proofs.Lagrange.{lagrange_plane}
use Rattle.integers.proofs.laws.lagrange.Goals as goal

pub returns : goal.returns
returns c = lagrange_plane

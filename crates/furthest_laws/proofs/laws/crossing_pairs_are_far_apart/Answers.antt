-- The areas of the four triangles are weights under which the corners balance.
use Rattle.furthest_laws.proofs.HullRows.{corners_cross}
use Rattle.furthest_laws.proofs.laws.crossing_pairs_are_far_apart.Goals as goal

pub returns : goal.returns
returns c = corners_cross

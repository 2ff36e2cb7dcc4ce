use Rattle.std.proofs.Common.{map}
use Rattle.added_areas.specs.PlaneVectors.{vector_of}
use Rattle.polygon_check.specs.FirstTests.{StayBelow}
use Rattle.polygon_check.proofs.firsts.stay_below.Given as goal

-- none before this one adds as much
abbrev pub invariant-others : goal.invariant-others
invariant-others l = StayBelow (map vector_of l.vectors) l.last l.other l.more l.left

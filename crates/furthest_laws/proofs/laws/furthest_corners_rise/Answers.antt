-- If they fell, the two pairs would cross.
use Rattle.std.proofs.Common.{length}
use Rattle.furthest_laws.specs.Rows.{distances}
use Rattle.furthest_laws.proofs.HullRows.{corners_cross}
use Rattle.furthest_laws.proofs.RowLaws.{rises}
use Rattle.furthest_laws.proofs.laws.furthest_corners_rise.Goals as goal

pub returns : goal.returns
returns c = λ points corners i j x y hull after near p q. rises (distances corners) (length corners) i j x y (corners_cross points corners hull) after near p q

-- How the distances of a hull's corners grow and fall.
use Rattle.std.specs.Prelude.{ℕ, ◌+◌, ◌<◌, ◌≤◌, List, length}
use Rattle.bounds_model.specs.Plane.{PlanePoint}
use Rattle.bounds_model.specs.Hull.{AreCorners}
use Rattle.furthest_laws.specs.Rows.{Crosses, IsRowGreatest, distances}

-- crossing pairs of a hull's corners are far apart
abbrev pub CrossingPairsAreFarApart : Type 0
CrossingPairsAreFarApart = (points corners : List PlanePoint) → AreCorners points corners → Crosses (distances corners) (length corners)

-- the first greatest columns of two rows, less than a round apart, are in order
abbrev pub FurthestCornersRise : Type 0
FurthestCornersRise =
    (points corners : List PlanePoint) (i j x y : ℕ) → AreCorners points corners → i < j → j < i + length corners
    → IsRowGreatest (distances corners) (length corners) i x → IsRowGreatest (distances corners) (length corners) j y → x ≤ y

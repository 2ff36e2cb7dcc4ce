-- Pairs of points.
use Rattle.std.specs.Prelude.{◌≡◌, ◌<◌, List, length}
use Rattle.bounds_model.specs.Plane.{PlanePoint, point_at}
use Rattle.min_annulus.specs.declared.pairs.Pair.{Pair}
use Rattle.min_annulus.specs.DifferenceVectors.{difference_of, IsDifference}

-- the numbers of two of the points, with their difference
pub record IsPair (points : List PlanePoint) (pair : Pair) : Type 0 where
  pub first : pair.first < length points
  pub second : pair.second < length points
  pub difference : pair.difference ≡ difference_of (point_at points pair.first) (point_at points pair.second)
  pub within : IsDifference pair.difference

-- What is found of the points that squares leave over.
use Rattle.std.specs.Prelude.{◌⊎◌, ℕ, ◌<◌, ◌≤◌, List, ℤ}
use Rattle.bounds_model.specs.Plane.{PlanePoint}
use Rattle.corner_squares.specs.declared.square.Square.{Square}
use Rattle.corner_squares.specs.declared.extent.Extent.{Extent}
use Rattle.corner_squares.specs.Squares.{IsCovered}
use Rattle.corner_squares.specs.Extents.{HasAt, IsPlaneExtent, IsInside, IsRestBox, IsNoLonger}
use Rattle.corner_squares.specs.Covers.{IsFarPair}
use Rattle.four_centres.specs.declared.orders.Key.{Key}
use Rattle.four_centres.specs.declared.surveys.Finding.{Finding}
use Rattle.four_centres.specs.declared.surveys.Finding.TheVariants.{Around, Far}
use Rattle.four_centres.specs.Orders.{point_in}

-- the extent reaches from the least to the greatest coordinate of those points at these places that no square contains
pub record IsSpanOf (of : PlanePoint → ℤ) (points : List PlanePoint) (order : List Key) (squares : List Square) (from to : ℕ) (e : Extent) : Type 0 where
  pub inside : (place : ℕ) → from ≤ place → place < to → IsCovered squares (point_in points order place) ⊎ IsInside e (of (point_in points order place))
  pub low_at : HasAt of points squares e.low_at e.low
  pub high_at : HasAt of points squares e.high_at e.high
  pub plane : IsPlaneExtent e

-- what is left over: points in a box that is no longer than the limit, or two far points
abbrev pub IsSurvey : List PlanePoint → List Square → ℕ → Finding → Type 0
IsSurvey points squares limit (Around b) = IsRestBox points squares b × IsNoLonger limit b
IsSurvey points squares limit (Far leaf) = IsFarPair points squares limit leaf

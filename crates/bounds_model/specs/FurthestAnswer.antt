-- The answers on furthest neighbours, and what a checker asks of them.
use Rattle.std.specs.Prelude.{ℕ, ◌<◌, ◌≤◌, ℤ, pos, List, length, map, All, slice_index_or}
use Rattle.integers.specs.Extremes.{greatest}
use Rattle.bounds_model.specs.Numbers.{HasCount, EachBelow}
use Rattle.bounds_model.specs.Plane.{PlanePoint, point_at, squared_distance}
use Rattle.bounds_model.specs.Fractions.{Fraction, SameValue}
use Rattle.bounds_model.specs.CornerTest.{CornersPass}
use Rattle.bounds_model.specs.Ranges.{IsFraction, point_limit}
use Rattle.bounds_model.specs.Furthest.{IsFurthest}

-- the number of a corner's point, and the position of the corner that is furthest from it
pub record Entry : Type 0 where
  pub corner : ℕ
  pub far : ℕ

-- the hull's corners, counterclockwise from the least point, each with its first furthest corner
pub record FurthestAnswer : Type 0 where
  pub size : Fraction
  pub entries : List Entry

-- the numbers of the corners
abbrev pub corner_numbers : List Entry → List ℕ
corner_numbers entries = map (λ e. e.corner) entries

-- the corners as points
abbrev pub entry_points : List PlanePoint → List Entry → List PlanePoint
entry_points points entries = map (point_at points) (corner_numbers entries)

-- the position that is named for the corner at position i
abbrev pub far_at : List Entry → ℕ → ℕ
far_at entries i = (slice_index_or entries i (record { corner = 0; far = 0 })).far

-- the squared distance of an entry's corner from the one that it names
abbrev pub far_distance : List PlanePoint → List Entry → Entry → ℤ
far_distance points entries e = squared_distance (point_at points e.corner) (point_at (entry_points points entries) e.far)

-- the greatest of these distances
abbrev pub furthest_size : List PlanePoint → List Entry → Fraction
furthest_size points entries = record { n = greatest (far_distance points entries) entries; d = pos 1 }

-- all numbers are in their ranges
pub record FurthestRanges (a : FurthestAnswer) : Type 0 where
  pub size : IsFraction a.size
  pub count : HasCount 1 10000 a.entries
  pub corners : All (λ e. e.corner ≤ point_limit) a.entries
  pub fars : All (λ e. e.far ≤ point_limit) a.entries

-- what a checker asks of furthest neighbours
pub record PassesFurthest (points : List PlanePoint) (a : FurthestAnswer) : Type 0 where
  pub ranges : FurthestRanges a
  pub numbers : All (λ number. number < length points) (corner_numbers a.entries)
  pub corners : CornersPass points (entry_points points a.entries)
  pub furthest : EachBelow (length a.entries) (λ i. IsFurthest (entry_points points a.entries) i (far_at a.entries i))
  pub size : SameValue a.size (furthest_size points a.entries)

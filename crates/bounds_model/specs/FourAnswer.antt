-- The answers on four centres, and what a checker asks of them. One of four squares covers the least point: it can be moved right until its left
-- side is there, and up until its lower side meets a point that it covers. At each such height the leaves are those of three squares for the others.
use Rattle.std.specs.Prelude.{◌≡◌, ◌⊎◌, ℕ, zero, suc, ◌*◌, ◌/◌, ◌%◌, ◌<◌, ◌≤◌, ℤ, pos, ◌-ℤ◌, ◌≤ℤ◌, ◌<ℤ◌, List, [], length, All, Any, Contains, slice_index_or}
use Rattle.bounds_model.specs.Numbers.{AllNumbered, HasCount}
use Rattle.bounds_model.specs.Plane.{PlanePoint, IsLeastPoint}
use Rattle.bounds_model.specs.Ranges.{IsFraction, IsPlaneRatio, point_limit}
use Rattle.bounds_model.specs.Centres.{FitsCentres}
use Rattle.bounds_model.specs.CentresAnswer.{Leaf, CentresAnswer, Square, cover_of, side, outside, IsCentreWithinLimits, IsLeafBelow}

-- the square whose left side is at the least point, at a height
abbrev pub first_square : ℕ → PlanePoint → ℤ → Square
first_square side least height = record { left = least.x; bottom = height; side = side }

-- a point has this y, which is at most a side below the least point, and not above it
pub record IsHeight (side : ℕ) (least : PlanePoint) (points : List PlanePoint) (y : ℤ) : Type 0 where
  pub from : (least.y -ℤ pos side) ≤ℤ y
  pub to : y ≤ℤ least.y
  pub meets : Any (λ p. p.y ≡ y) points

-- all such heights, ascending
pub record AreHeights (side : ℕ) (least : PlanePoint) (points : List PlanePoint) (heights : List ℤ) : Type 0 where
  pub each : All (IsHeight side least points) heights
  pub all : (y : ℤ) → IsHeight side least points y → Contains heights y
  pub ascending : (j k : ℕ) (d : ℤ) → j < k → k < length heights → slice_index_or heights j d <ℤ slice_index_or heights k d

-- sixteen leaves for each height, in order: the first square is placed there
pub record AreLeavesByHeight (side : ℕ) (points : List PlanePoint) (leaves : List Leaf) : Type 0 where
  pub least : PlanePoint
  pub is_least : IsLeastPoint points least
  pub heights : List ℤ
  pub are_heights : AreHeights side least points heights
  pub as_many : length leaves ≡ 16 * length heights
  pub each : AllNumbered (λ n leaf. IsLeafBelow side 2 points (outside (first_square side least (slice_index_or heights (n / 16) (pos 0))) points) (n % 16) leaf) leaves

-- none where the side is 0, else those of squares of a side less by 1
abbrev pub AreFourLeaves : ℕ → List PlanePoint → List Leaf → Type 0
AreFourLeaves zero points leaves = leaves ≡ []
AreFourLeaves (suc side) points leaves = AreLeavesByHeight side points leaves

-- all numbers are in their ranges
pub record FourRanges (a : CentresAnswer) : Type 0 where
  pub size : IsFraction a.size
  pub square_count : HasCount 4 4 a.squares
  pub squares : All IsPlaneRatio a.squares
  pub leaf_count : HasCount 0 16000 a.leaves
  pub leaves : All (λ leaf. (leaf.first ≤ point_limit) × (leaf.second ≤ point_limit)) a.leaves

-- what a checker asks of four centres
pub record PassesFour (points : List PlanePoint) (a : CentresAnswer) : Type 0 where
  pub ranges : FourRanges a
  pub numbers : All (λ leaf. (leaf.first < length points) × (leaf.second < length points)) a.leaves
  pub halves : (a.size.d ≡ pos 1) ⊎ (a.size.d ≡ pos 2)
  pub size_limit : a.size.n ≤ℤ pos 1000000
  pub centres : All IsCentreWithinLimits a.squares
  pub covers : FitsCentres 4 points (cover_of a)
  pub leaves : AreFourLeaves (side a.size) points a.leaves
